-- The digits of a number, written two and four at a time.
use Rattle.std.proofs.Common.{◌≡◌, ℕ, zero, suc, ◌+◌, ◌*◌, ◌/◌, ◌%◌, ◌^◌, ◌<◌, ◌≤◌, Bool, true, ◌&&◌, List, [], ◌∷◌, ◌++◌, length, get_or, decimal, ap, ◌∙◌, arith, append_assoc, refl, sym, set, take, ◌==◌}
use Rattle.std.proofs.lemmas.Bool.Decides.{Decides-and, Decides-eqb, Decides-below_and}
use Rattle.std.proofs.lemmas.Fmt.{decimal_digit, decimal_step}
use Rattle.std.proofs.lemmas.Grind.{common_steps}
use Rattle.std.proofs.lemmas.List.{take_more_set}
pub use Rattle.std.proofs.lemmas.Str.{IsUtf8-from_ascii}
use Rattle.enumset.specs.declared.set_json.digits.TheConstants.{PAIRS}

abbrev pub pair : ℕ → List ℕ
pair p = (48 + p / 10) ∷ (48 + p % 10) ∷ []

-- the table has the two digits of p
abbrev IsPair : ℕ → Type 0
IsPair p = (get_or PAIRS (p * 2) 0 ≡ 48 + p / 10) × (get_or PAIRS (p * 2 + 1) 0 ≡ 48 + p % 10)

abbrev is_pair : ℕ → Bool
is_pair p = (get_or PAIRS (p * 2) 0 == 48 + p / 10) && (get_or PAIRS (p * 2 + 1) 0 == 48 + p % 10)

abbrev are_pairs : ℕ → Bool
are_pairs zero = true
are_pairs (suc n) = is_pair n && are_pairs n

pub pairs_are : (p : ℕ) → p < 100 → IsPair p
pairs_are p small = (Decides-below_and is_pair IsPair are_pairs (λ k. Decides-and _ _ (Decides-eqb _ _) (Decides-eqb _ _)) refl (λ n. refl) 100).0 refl p small

pub two_digits : (n : ℕ) → 10 ≤ n → n < 100 → decimal n ≡ pair n
two_digits n some small = rw (decimal_step n some (omega arith), decimal_digit (n / 10) (omega arith))

pub last_two : (n : ℕ) → 100 ≤ n → n < 2 ^ 64 → decimal n ≡ decimal (n / 100) ++ pair (n % 100)
last_two n some fits =
    let a : n / 10 / 10 ≡ n / 100 = omega arith in
    let b : n / 10 % 10 ≡ n % 100 / 10 = omega arith in
    let c : n % 10 ≡ n % 100 % 10 = omega arith in
    rw (decimal_step n (omega arith) fits, decimal_step (n / 10) (omega arith) (omega arith), append_assoc, a, b, ← c)

-- the digits that `put_four` writes
abbrev pub four : ℕ → List ℕ
four n = (48 + n / 100 / 10) ∷ (48 + n / 100 % 10) ∷ (48 + n % 100 / 10) ∷ (48 + n % 100 % 10) ∷ []

last_four : (n : ℕ) → 10000 ≤ n → n < 2 ^ 64 → decimal n ≡ decimal (n / 10000) ++ four (n % 10000)
last_four n some fits =
    let a : n / 100 / 100 ≡ n / 10000 = omega arith in
    let b : n / 100 % 100 ≡ n % 10000 / 100 = omega arith in
    let c : n % 10000 % 100 ≡ n % 100 = omega arith in
    rw (last_two n (omega arith) fits, last_two (n / 100) (omega arith) (omega arith), append_assoc, a, b, c)

-- two texts written one after the other
after : (front xs ys all one two : List ℕ) → all ≡ xs ++ ys → one ≡ front ++ xs → two ≡ one ++ ys → two ≡ front ++ all
after front xs ys all one two is first then = then ∙ ap (λ l. l ++ ys) first ∙ append_assoc front xs ys ∙ ap (λ l. front ++ l) (sym is)

pub put_digit : (row : List ℕ) (at n : ℕ) → n < 10 → at < length row → take (at + 1) (set row at (48 + n)) ≡ take at row ++ decimal n
put_digit row at n small inside = take_more_set row at (48 + n) inside ∙ ap (λ l. take at row ++ l) (sym (decimal_digit n small))

pub put_both : (row : List ℕ) (at p : ℕ) → at + 2 ≤ length row → take (at + 2) (set (set row at (48 + p / 10)) (at + 1) (48 + p % 10)) ≡ take at row ++ pair p
put_both row at p inside = grind (arith, common_steps)

pub put_three : (row one : List ℕ) (at n : ℕ) → 100 ≤ n → n < 1000 → at < length row
    → take (at + 1 + 2) one ≡ take (at + 1) (set row at (48 + n / 100)) ++ pair (n % 100) → take (at + 3) one ≡ take at row ++ decimal n
put_three row one at n some small inside is =
    let e : at + 1 + 2 ≡ at + 3 = omega arith in
    after (take at row) (decimal (n / 100)) (pair (n % 100)) (decimal n) _ _ (last_two n some (omega arith)) (put_digit row at (n / 100) (omega arith) inside) (rw e at is)

pub put_all_four : (row one : List ℕ) (at n : ℕ) → 1000 ≤ n → n < 10000 → take (at + 4) one ≡ take at row ++ four n → take (at + 4) one ≡ take at row ++ decimal n
put_all_four row one at n some small is = is ∙ ap (λ l. take at row ++ l) (sym (last_two n (omega arith) (omega arith) ∙ ap (λ l. l ++ pair (n % 100)) (two_digits (n / 100) (omega arith) (omega arith))))

pub put_pairs : (row one two : List ℕ) (at m n : ℕ) → take (at + 2) one ≡ take at row ++ pair m → take (at + 2 + 2) two ≡ take (at + 2) one ++ pair n → take (at + 4) two ≡ take at row ++ (pair m ++ pair n)
put_pairs row one two at m n first then =
    let e : at + 2 + 2 ≡ at + 4 = omega arith in
    after (take at row) (pair m) (pair n) (pair m ++ pair n) _ _ refl first (rw e at then)

pub put_last_four : (row one two : List ℕ) (at next n : ℕ) → 10000 ≤ n → n < 2 ^ 64 → take next one ≡ take at row ++ decimal (n / 10000) → take (next + 4) two ≡ take next one ++ four (n % 10000) → take (next + 4) two ≡ take at row ++ decimal n
put_last_four row one two at next n some fits = after (take at row) (decimal (n / 10000)) (four (n % 10000)) (decimal n) _ _ (last_four n some fits)

pub put_last_eight : (row one two three : List ℕ) (at next n : ℕ) → 100000000 ≤ n → n < 2 ^ 64 → take next one ≡ take at row ++ decimal (n / 100000000)
    → take (next + 4) two ≡ take next one ++ four (n / 10000 % 10000) → take (next + 4 + 4) three ≡ take (next + 4) two ++ four (n % 10000) → take (next + 8) three ≡ take at row ++ decimal n
put_last_eight row one two three at next n some fits first then last =
    let a : n / 100000000 ≡ n / 10000 / 10000 = omega arith in
    let e : next + 4 + 4 ≡ next + 8 = omega arith in
    rw (← e) (put_last_four row two three at (next + 4) n (omega arith) fits (put_last_four row one two at next (n / 10000) (omega arith) (omega arith) (rw a at first) then) last)

pub ruleset digit_laws = (pairs_are, two_digits, put_digit, put_both, put_three, put_all_four, put_pairs, put_last_four, put_last_eight, IsUtf8-from_ascii)
