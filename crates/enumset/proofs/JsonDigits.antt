-- What serde_json reads for the digits of a number, digit by digit, before what ends it.
use Rattle.std.proofs.Common.{◌≡◌, ◌≤◌, ◌<◌, ◌^◌, ℕ, zero, suc, ◌+◌, ◌-◌, List, [], ◌∷◌, ◌++◌, length, take, drop, get_or, cond, refl, ap, subst, ◌∙◌, ◌⊎◌, inl, inr, decimal, arith, length-append, Bool, true, false, ◌==◌, ◌||◌, nat_lt}
use Rattle.std.proofs.Math.Seq.{take-append_seam}
use Rattle.std.proofs.lemmas.Bool.Decides.{nat_tests}
use Rattle.std.proofs.lemmas.Fmt.{decimal_is_IsNumeral, decimal_digit, first_decimal}
use Rattle.std.proofs.lemmas.Str.Parse.{digit_from_value}
use Rattle.std.specs.Char.{is_ascii_digit}
use Rattle.std.specs.List.{prefix_len}
use Rattle.std.specs.Prelude.{⊤}
use Rattle.std.specs.Str.Parse.{AllDigits}
use Rattle.serde_json.proofs.OnLiterals.{serde_json_on_literals}
use Rattle.serde_json.specs.Sent.{number_token}
use Rattle.enumset.proofs.JsonTokens.{tokens, Tokens, after_value}
use Rattle.enumset.specs.JsonPlain.{is_space}

abbrev pub IsDigit : ℕ → Type 0
IsDigit x = (48 ≤ x) × (x ≤ 57)

abbrev pub AreDigits : List ℕ → Type 0
AreDigits [] = ⊤
AreDigits (x ∷ xs) = IsDigit x × AreDigits xs

-- a byte that is not one of the bytes with a meaning in JSON
abbrev IsOther : ℕ → Type 0
IsOther x =
    ((x == 34) ≡ false) × ((x == 92) ≡ false) × ((x == 123) ≡ false) × ((x == 125) ≡ false) × ((x == 91) ≡ false) × ((x == 93) ≡ false) × ((x == 58) ≡ false) × ((x == 44) ≡ false)
    × ((x == 32) ≡ false) × ((x == 9) ≡ false) × ((x == 10) ≡ false) × ((x == 13) ≡ false)
    × ((x == 116) ≡ false) × ((x == 102) ≡ false) × ((x == 110) ≡ false) × ((x == 45) ≡ false) × (is_ascii_digit x ≡ true)

is_other : (x : ℕ) → IsDigit x → IsOther x
is_other x digit = (o 34 refl, o 92 refl, o 123 refl, o 125 refl, o 91 refl, o 93 refl, o 58 refl, o 44 refl, o 32 refl, o 9 refl, o 10 refl, o 13 refl, o 116 refl, o 102 refl, o 110 refl, o 45 refl, grind (arith, nat_tests, digit))
  where
    o : (k : ℕ) → (nat_lt k 48 || nat_lt 57 k) ≡ true → (x == k) ≡ false
    o k far = grind (arith, nat_tests, digit)

not_zero : (n : ℕ) → (suc n == 0) ≡ false
not_zero n = grind arith

-- ---- what ends a number

abbrev first_of : List ℕ → ℕ
first_of e = get_or e 0 32

abbrev pub Ends : List ℕ → Type 0
Ends e =
    ((first_of e == 46) ≡ false) × ((first_of e == 101) ≡ false) × ((first_of e == 69) ≡ false) × (is_ascii_digit (first_of e) ≡ false)
    × (((first_of e == 123) || (first_of e == 125) || (first_of e == 91) || (first_of e == 93) || (first_of e == 58) || (first_of e == 44) || is_space (first_of e)) ≡ true)

no_digits : (e : List ℕ) → is_ascii_digit (first_of e) ≡ false → prefix_len is_ascii_digit e ≡ 0
no_digits [] none = refl
no_digits (c ∷ e) none = ap (λ b. cond b (1 + prefix_len is_ascii_digit e) 0) none

-- ---- digits before what ends a number

-- xs is digits, and then e
abbrev IsRun : List ℕ → List ℕ → Type 0
IsRun xs e = (n : ℕ) × (1 + prefix_len is_ascii_digit xs ≡ suc n) × (drop n xs ≡ e)

-- the byte x and the digits after it, up to e
abbrev whole : ℕ → List ℕ → List ℕ → List ℕ
whole x xs e = take (suc (length xs) - length e) (x ∷ xs)

whole_is : (x : ℕ) (ds e : List ℕ) → whole x (ds ++ e) e ≡ x ∷ ds
whole_is x ds e =
    let count : suc (length (ds ++ e)) - length e ≡ suc (length ds) = omega (arith, length-append ds e) in
    ap (λ n. take n (x ∷ (ds ++ e))) count ∙ take-append_seam (x ∷ ds) e

-- the tokens of a text, alone and after a comma
abbrev pub Stands : List ℕ → Tokens → Type 0
Stands text ts = (tokens text ≡ ts) × (after_value (44 ∷ text) ≡ ts)

-- a number with no leading zero
further : (x : ℕ) (xs s z : List ℕ) → IsOther x → (x == 48) ≡ false → IsRun xs z → whole x xs z ≡ s → Ends z → Stands (x ∷ xs) (number_token false s ∷ drop 1 (tokens (49 ∷ xs)))
unfolding serde_json_on_literals
further x xs s z (a, b, c, d, e, f, g, h, i, j, k, l, m, n, o, p, q) first (u, count, rest) taken (dot, lower, upper, none, ends) =
    rw (a, b, c, d, e, f, g, h, i, j, k, l, m, n, o, p, q, first, count, not_zero u, rest, dot, lower, upper, ends, taken) (refl, refl)

-- one more digit after the first
longer : (x : ℕ) (xs z : List ℕ) → IsOther x → IsRun xs z → IsRun (x ∷ xs) z → Ends z → drop 1 (tokens (49 ∷ x ∷ xs)) ≡ drop 1 (tokens (49 ∷ xs))
unfolding serde_json_on_literals
longer x xs z (a, b, c, d, e, f, g, h, i, j, k, l, m, n, o, p, q) (u, count, rest) (v, count', rest') (dot, lower, upper, none, ends) =
    rw (a, b, c, d, e, f, g, h, i, j, k, l, count', count, not_zero u, not_zero v, rest, rest', dot, lower, upper, ends)

nought : (z : List ℕ) → Ends z → Stands (48 ∷ z) (number_token false (48 ∷ []) ∷ drop 1 (tokens (49 ∷ z)))
unfolding serde_json_on_literals
nought z (dot, lower, upper, none, ends) = rw (no_digits z none, dot, lower, upper, ends, whole_is 48 [] z) (refl, refl)

-- ---- the digits of a number before e

starts_digit : (b : Bool) (n : ℕ) → b ≡ true → cond b (1 + n) 0 ≡ suc n
starts_digit b n e = rw e (omega arith)

run : (ds e : List ℕ) → AreDigits ds → Ends e → IsRun (ds ++ e) e
run [] e p ends = (0, omega (arith, no_digits e ends.3), refl)
run (x ∷ ds) e p ends =
    let (n, count, rest) = run ds e p.1 ends in
    (suc n, omega (arith, starts_digit (is_ascii_digit x) (prefix_len is_ascii_digit (ds ++ e)) (is_other x p.0).16, count), rest)

after_digits : (ds e : List ℕ) → AreDigits ds → Ends e → drop 1 (tokens (49 ∷ (ds ++ e))) ≡ drop 1 (tokens (49 ∷ e))
after_digits [] e p ends = refl
after_digits (x ∷ ds) e p ends = longer x (ds ++ e) e (is_other x p.0) (run ds e p.1 ends) (run (x ∷ ds) e p ends) ends ∙ after_digits ds e p.1 ends

-- the digit 0, or digits that begin with another one
abbrev IsShort : List ℕ → Type 0
IsShort s = (s ≡ 48 ∷ []) ⊎ ((x : ℕ) × (ds : List ℕ) × (s ≡ x ∷ ds) × ((x == 48) ≡ false) × IsDigit x × AreDigits ds)

all_digits : (s : List ℕ) → AllDigits 10 s → AreDigits s
all_digits [] h = tt
all_digits (x ∷ s) h = (omega (arith, digit_from_value x h.0), all_digits s h.1)

further_short : (s : List ℕ) → AllDigits 10 s → 48 < get_or s 0 0 → IsShort s
further_short [] h some = absurd (omega arith)
further_short (x ∷ s) h some = inr (x, s, refl, grind (arith, nat_tests, some), omega (arith, digit_from_value x h.0), all_digits s h.1)

short : (n : ℕ) → n < 2 ^ 64 → IsShort (decimal n)
short zero h = inl (decimal_digit 0 (omega arith))
short (suc n) h = further_short (decimal (suc n)) (decimal_is_IsNumeral (suc n) h).0.1 (first_decimal (suc n) (omega arith) h)

short_before : (s e : List ℕ) → IsShort s → Ends e → Stands (s ++ e) (number_token false s ∷ drop 1 (tokens (49 ∷ e)))
short_before s e (inl is) ends = rw is (nought e ends)
short_before s e (inr (x, ds, is, first, digit, p)) ends =
    rw is (subst (λ ts. Stands (x ∷ (ds ++ e)) (number_token false (x ∷ ds) ∷ ts)) (after_digits ds e p ends) (further x (ds ++ e) (x ∷ ds) e (is_other x digit) first (run ds e p ends) (whole_is x ds e) ends))

pub decimal_before : (n : ℕ) (e : List ℕ) → n < 2 ^ 64 → Ends e → Stands (decimal n ++ e) (number_token false (decimal n) ∷ drop 1 (tokens (49 ∷ e)))
decimal_before n e fits ends = short_before (decimal n) e (short n fits) ends
