-- What a field writes, digit by digit.
use Rattle.std.proofs.Common.{◌≡◌, ◌==◌, ℕ, ◌+◌, ◌-◌, ◌*◌, ◌^◌, ◌<◌, ◌≤◌, true, false, ◌&&◌, nat_lt, List, [], ◌∷◌, length, get_or, drop, Option, Some, None, option_and_then, refl, drop-cons, add-one, arith, if◌then◌else◌}
use Rattle.std.specs.Str.{all_ascii_digits}
use Rattle.std.specs.Str.Parse.{digits_value_after}
use Rattle.std.specs.Char.{is_ascii_digit, digit_value}
use Rattle.std.proofs.lemmas.List.{drop_all}
use Rattle.std.proofs.lemmas.Bool.Decides.{nat_tests}
use Rattle.enumset_commands.specs.Fields.{value, register, bit, word, Takes, BeginsWithNone}

-- the value that digits write after the digits of n
abbrev pub value_after : ℕ → List ℕ → Option ℕ
value_after n ds =
    if all_ascii_digits ds && nat_lt (digits_value_after 10 n ds) (2 ^ 128) then Some (digits_value_after 10 n ds) else None

digits_value_after-ge : (ds : List ℕ) (n : ℕ) → n ≤ digits_value_after 10 n ds
digits_value_after-ge [] n = omega arith
digits_value_after-ge (d ∷ ds) n = omega (arith, digits_value_after-ge ds (n * 10 + digit_value d))

digit_value-digit : (c : ℕ) → is_ascii_digit c ≡ true → digit_value c ≡ c - 48
digit_value-digit c h = grind (arith, nat_tests)

pub value_after-start : (token : List ℕ) → (length token == 0) ≡ false → value_after 0 token ≡ value token
value_after-start token full = rw full refl

-- the byte at i, and those after it
pub value_after-digit : (token : List ℕ) (n i : ℕ) → i < length token → is_ascii_digit (get_or token i 0) ≡ true → value_after n (drop i token) ≡ value_after (n * 10 + (get_or token i 0 - 48)) (drop (i + 1) token)
value_after-digit token n i h d =
    rw (add-one, drop-cons token i 0 h, ← digit_value-digit (get_or token i 0) d, d) refl

pub value_after-other : (token : List ℕ) (n i : ℕ) → i < length token → is_ascii_digit (get_or token i 0) ≡ false → value_after n (drop i token) ≡ None
value_after-other token n i h d = rw (drop-cons token i 0 h, d) refl

pub value_after-large : (ds : List ℕ) (n : ℕ) → 2 ^ 128 ≤ n → value_after n ds ≡ None
value_after-large ds n h = let more = digits_value_after-ge ds n in grind (arith, nat_tests)

pub value_after-end : (token : List ℕ) (n i : ℕ) → length token ≤ i → n < 2 ^ 128 → value_after n (drop i token) ≡ Some n
value_after-end token n i h fits = rw (drop_all i token h) (grind (arith, nat_tests))

pub ruleset field_steps = (value_after-start, value_after-digit, value_after-other, value_after-large, value_after-end)

-- ---- words, and fields of fewer bits

pub word-fits : (token : List ℕ) (n : ℕ) → value token ≡ Some n → n < 2 ^ 64 → word token ≡ Some n
word-fits token n h fits = rw h (grind (arith, nat_tests))

pub word-none : (token : List ℕ) → value token ≡ None → word token ≡ None
word-none token h = rw h refl

pub word-large : (token ds : List ℕ) (n : ℕ) → value token ≡ value_after n ds → 2 ^ 64 ≤ n → word token ≡ None
word-large token ds n h large = let more = digits_value_after-ge ds n in rw h (grind (arith, nat_tests))

-- a number below m is one of 64 bits
narrow : (m : ℕ) (o : Option ℕ) → m ≤ 2 ^ 64 → option_and_then (λ n. if nat_lt n m then Some n else None) o ≡ option_and_then (λ n. if nat_lt n m then Some n else None) (option_and_then (λ n. if nat_lt n (2 ^ 64) then Some n else None) o)
narrow m None h = refl
narrow m (Some n) h = grind (arith, nat_tests)

pub register-word : (token : List ℕ) → register token ≡ option_and_then (λ n. if nat_lt n (2 ^ 8) then Some n else None) (word token)
register-word token = narrow (2 ^ 8) (value token) (omega arith)

pub bit-word : (token : List ℕ) → bit token ≡ option_and_then (λ n. if nat_lt n (2 ^ 32) then Some n else None) (word token)
bit-word token = narrow (2 ^ 32) (value token) (omega arith)

pub register-takes : (n : ℕ) (old new : List (List ℕ)) → Takes word old (Some n) new → n < 2 ^ 8 → Takes register old (Some n) new
register-takes n old new (token, first, read) fits = (token, first, rw (register-word token, read) (grind (arith, nat_tests)))

pub register-large : (n : ℕ) (old new : List (List ℕ)) → Takes word old (Some n) new → 2 ^ 8 ≤ n → BeginsWithNone register old
register-large n old new (token, first, read) large = rw (first, register-word token, read) (grind (arith, nat_tests))

pub register-none : (old : List (List ℕ)) → BeginsWithNone word old → BeginsWithNone register old
register-none [] none = tt
register-none (token ∷ tokens) none = rw (register-word token, none) refl

pub bit-takes : (n : ℕ) (old new : List (List ℕ)) → Takes word old (Some n) new → n < 2 ^ 32 → Takes bit old (Some n) new
bit-takes n old new (token, first, read) fits = (token, first, rw (bit-word token, read) (grind (arith, nat_tests)))

pub bit-large : (n : ℕ) (old new : List (List ℕ)) → Takes word old (Some n) new → 2 ^ 32 ≤ n → BeginsWithNone bit old
bit-large n old new (token, first, read) large = rw (first, bit-word token, read) (grind (arith, nat_tests))

pub bit-none : (old : List (List ℕ)) → BeginsWithNone word old → BeginsWithNone bit old
bit-none [] none = tt
bit-none (token ∷ tokens) none = rw (bit-word token, none) refl

pub ruleset narrow_fields = (register-takes, register-large, register-none, bit-takes, bit-large, bit-none)
