-- The invariant of the loop that scans a number's digits, and which number a text begins with.
use Rattle.std.proofs.Common.{◌≡◌, ◌<◌, ◌≤◌, ◌+◌, ◌*◌, ◌/◌, ◌%◌, ◌^◌, ℕ, zero, suc, List, [], ◌∷◌, ◌++◌, length, drop, get_or, decimal, true, refl, sym, ap, subst, ◌∙◌, append_assoc, append-nil, drop-cons, arith, pow-add}
use Rattle.std.proofs.Math.Nat.{pow-le-pow_right}
use Rattle.std.proofs.lemmas.Bool.Decides.{nat_tests}
use Rattle.std.proofs.lemmas.Fmt.{decimal_digit, decimal_step, decimal_is_IsNumeral, decimal_nonempty, first_decimal}
use Rattle.std.proofs.lemmas.Str.{digit_value_digit}
use Rattle.std.proofs.lemmas.Str.Parse.{digit_from_value}
use Rattle.std.specs.Char.{digit_value, is_ascii_digit}
use Rattle.std.specs.List.{AllByRecursion}
use Rattle.std.specs.Str.Parse.{AllDigits, digits_value, digits_value_after}
use Rattle.enumset.proofs.DigitsWritten.{last_two}
use Rattle.enumset.proofs.JsonScans.{further}
use Rattle.enumset.specs.JsonPlain.{Begins}

pub first_digit : (s xs : List ℕ) (x d : ℕ) → d < 10 → x ≡ 48 + d → s ≡ x ∷ xs → s ≡ decimal d ++ xs
first_digit s xs x d small is split = split ∙ ap (λ x. x ∷ xs) is ∙ ap (λ l. l ++ xs) (sym (decimal_digit d small))

pub one_more_digit : (n d : ℕ) (xs : List ℕ) → 0 < n → d < 10 → n * 10 + d < 2 ^ 64 → decimal n ++ ((48 + d) ∷ xs) ≡ decimal (n * 10 + d) ++ xs
one_more_digit n d xs some small fits =
    let front : (n * 10 + d) / 10 ≡ n = omega (arith, small) in
    let last : (n * 10 + d) % 10 ≡ d = omega (arith, small) in
    sym (append_assoc (decimal n) ((48 + d) ∷ []) xs) ∙ ap (λ l. l ++ xs) (sym (decimal_step (n * 10 + d) (omega (arith, some)) fits ∙ (λ j. decimal (front j) ++ (48 + last j) ∷ [])))

-- the digits before an index are the digits of n
abbrev pub Scanned : List ℕ → List ℕ → ℕ → ℕ → Type 0
Scanned s xs i n = (0 < n) × (n < 10 ^ (i + 1)) × (s ≡ decimal n ++ drop i xs) × (10 ^ i ≤ n)

pub scanned_pair : (s xs : List ℕ) (i n d e : ℕ) → i + 2 ≤ length xs → i + 2 ≤ 18 → d < 10 → e < 10 → get_or xs i 0 ≡ 48 + d → get_or xs (i + 1) 0 ≡ 48 + e → Scanned s xs i n
    → (n * 100 + (d * 10 + e) < 2 ^ 64) × Scanned s xs (i + 2) (n * 100 + (d * 10 + e))
scanned_pair s xs i n d e within few small small' tens ones (some, below, so_far, least) =
    let most : 10 ^ (i + 1) ≤ 10 ^ 17 = pow-le-pow_right (omega arith) {i = i + 1} {j = 17} (omega (arith, few)) in
    let power : i + 1 + 2 ≡ i + 2 + 1 = omega arith in
    let fits : n * 100 + (d * 10 + e) < 2 ^ 64 = omega (arith, most, below, small, small') in
    let front : (n * 100 + (d * 10 + e)) / 100 ≡ n = omega (arith, small, small') in
    let ten : (n * 100 + (d * 10 + e)) % 100 / 10 ≡ d = omega (arith, small, small') in
    let one : (n * 100 + (d * 10 + e)) % 100 % 10 ≡ e = omega (arith, small, small') in
    let next : suc i ≡ i + 1 = omega arith in
    let after : suc (i + 1) ≡ i + 2 = omega arith in
    let rest : drop (i + 1) xs ≡ (48 + e) ∷ drop (i + 2) xs = drop-cons xs (i + 1) 0 (omega (arith, within)) ∙ (λ j. ones j ∷ drop (after j) xs) in
    let two : drop i xs ≡ (48 + d) ∷ drop (i + 1) xs = drop-cons xs i 0 (omega (arith, within)) ∙ (λ j. tens j ∷ drop (next j) xs) in (
      fits,
      (
        omega (arith, some),
        omega (arith, below, small, small', pow-add 10 (i + 1) 2, ap (λ k. 10 ^ k) power),
        so_far ∙ ap (λ l. decimal n ++ l) (two ∙ ap (λ l. (48 + d) ∷ l) rest) ∙ sym (append_assoc (decimal n) ((48 + d) ∷ (48 + e) ∷ []) (drop (i + 2) xs))
            ∙ ap (λ l. l ++ drop (i + 2) xs) (sym (last_two (n * 100 + (d * 10 + e)) (omega (arith, some)) fits ∙ (λ j. decimal (front j) ++ ((48 + ten j) ∷ (48 + one j) ∷ [])))),
        omega (arith, least, pow-add 10 i 2),
      ),
    )

-- ---- which number a text begins with

abbrev pub IsDigit : ℕ → Type 0
IsDigit x = is_ascii_digit x ≡ true

are_digits : (s : List ℕ) → AllDigits 10 s → AllByRecursion IsDigit s
are_digits [] all = tt
are_digits (x ∷ s) all = let range = digit_from_value x all.0 in (grind (arith, nat_tests, range), are_digits s all.1)

pub decimal_digits : (n : ℕ) → n < 2 ^ 64 → AllByRecursion IsDigit (decimal n)
decimal_digits n fits = are_digits (decimal n) (decimal_is_IsNumeral n fits).0.1

at_least : (n : ℕ) (ds : List ℕ) → n ≤ digits_value_after 10 n ds
at_least n [] = omega arith
at_least n (d ∷ ds) = omega (arith, at_least (n * 10 + digit_value d) ds)

value_after : (n : ℕ) (xs ys : List ℕ) → digits_value_after 10 n (xs ++ ys) ≡ digits_value_after 10 (digits_value_after 10 n xs) ys
value_after n [] ys = refl
value_after n (x ∷ xs) ys = value_after (n * 10 + digit_value x) xs ys

-- a number whose digits begin with those of n and a further digit d is at least n * 10 + d
pub more_digits : (m n d : ℕ) (ds : List ℕ) → m < 2 ^ 64 → n < 2 ^ 64 → decimal m ≡ decimal n ++ d ∷ ds → n * 10 + digit_value d ≤ m
more_digits m n d ds fits small e =
    let value = sym (decimal_is_IsNumeral m fits).1 ∙ ap (digits_value 10) e ∙ value_after 0 (decimal n) (d ∷ ds) ∙ ap (λ k. digits_value_after 10 k (d ∷ ds)) (decimal_is_IsNumeral n small).1 in
    omega (arith, value, at_least (n * 10 + digit_value d) ds)

pub same_decimal : (m n : ℕ) → m < 2 ^ 64 → n < 2 ^ 64 → decimal m ≡ decimal n → n ≡ m
same_decimal m n fits small e = sym (decimal_is_IsNumeral n small).1 ∙ sym (ap (digits_value 10) e) ∙ (decimal_is_IsNumeral m fits).1

-- a text begins with one number, which no digit follows
pub same_number : (m n : ℕ) (xs ys : List ℕ) → m < 2 ^ 64 → n < 2 ^ 64 → (Begins IsDigit xs → ⊥) → (Begins IsDigit ys → 2 ^ 64 ≤ n * 10) → decimal m ++ xs ≡ decimal n ++ ys → (n ≡ m) × (ys ≡ xs)
same_number m n xs ys fits small none long e = at (further IsDigit (decimal m) (decimal n) xs ys (decimal_digits m fits) (decimal_digits n small) none e)
  where
    at : (ds : List ℕ) × AllByRecursion IsDigit ds × (decimal m ≡ decimal n ++ ds) × (ys ≡ ds ++ xs) → (n ≡ m) × (ys ≡ xs)
    at ([], all, front, back) = (same_decimal m n fits small (front ∙ append-nil (decimal n)), back)
    at (d ∷ ds, all, front, back) = absurd (omega (arith, more_digits m n d ds fits small front, long (subst (Begins IsDigit) (sym back) all.0)))

-- no number of 64 bits has the digits of a greater one
pub too_long : (m n d : ℕ) (xs end : List ℕ) → m < 2 ^ 64 → n < 2 ^ 64 → d < 10 → 2 ^ 64 ≤ n * 10 + d → (Begins IsDigit xs → ⊥) → decimal m ++ xs ≡ decimal n ++ (48 + d) ∷ end → ⊥
too_long m n d xs end fits small digit long none e = at (further IsDigit (decimal m) (decimal n) xs ((48 + d) ∷ end) (decimal_digits m fits) (decimal_digits n small) none e)
  where
    one : IsDigit (48 + d)
    one = grind (arith, nat_tests, digit)

    at : (ds : List ℕ) × AllByRecursion IsDigit ds × (decimal m ≡ decimal n ++ ds) × ((48 + d) ∷ end ≡ ds ++ xs) → ⊥
    at ([], all, front, back) = none (subst (Begins IsDigit) back one)
    at (k ∷ ds, all, front, back) =
        let same : 48 + d ≡ k = cc in
        omega (arith, more_digits m n k ds fits small front, digit_value_digit k (omega (arith, same, digit), omega (arith, same, digit)))

-- a text whose first byte is no digit begins with no number
pub no_number : (m : ℕ) (xs : List ℕ) → m < 2 ^ 64 → (Begins IsDigit (decimal m ++ xs) → ⊥) → ⊥
no_number m xs fits none = at (decimal m) (decimal_nonempty m fits) (decimal_digits m fits) none
  where
    at : (s : List ℕ) → 0 < length s → AllByRecursion IsDigit s → (Begins IsDigit (s ++ xs) → ⊥) → ⊥
    at [] some all none = omega arith
    at (x ∷ s) some all none = none all.0

-- the only number whose first digit is 0 is 0
pub is_nought : (m : ℕ) (xs rest : List ℕ) → m < 2 ^ 64 → decimal m ++ xs ≡ 48 ∷ rest → (0 ≡ m) × (rest ≡ xs)
is_nought zero xs rest fits e =
    let same : 48 ∷ xs ≡ 48 ∷ rest = ap (λ l. l ++ xs) (sym (decimal_digit 0 (omega arith))) ∙ e in
    (refl, cc)
is_nought (suc m) xs rest fits e = absurd (at (decimal (suc m)) (decimal_nonempty (suc m) fits) (first_decimal (suc m) (omega arith) fits) e)
  where
    at : (s : List ℕ) → 0 < length s → 48 < get_or s 0 0 → s ++ xs ≡ 48 ∷ rest → ⊥
    at [] some first e = omega arith
    at (x ∷ s) some first e = let same : x ≡ 48 = cc in omega (arith, same, first)
