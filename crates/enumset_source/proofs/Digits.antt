-- The numbers of digits, one digit at a time.
use Rattle.std.proofs.Common.{◌≡◌, ◌<◌, ◌+◌, ℕ, List, [], ◌∷◌, ◌++◌, ◌==◌, ◌||◌, Bool, true, false, if◌then◌else◌, suc, length, take, get_or, refl, ap, ◌∙◌}
use Rattle.std.proofs.lemmas.List.{take_more}
use Rattle.enumset_source.specs.Literals.{before_type, with_digit, digits_after, number_in}

appended : (r n : ℕ) (bytes : List ℕ) (byte : ℕ) → digits_after r n (bytes ++ byte ∷ []) ≡ with_digit r (digits_after r n bytes) byte
appended r n [] byte = refl
appended r n (b ∷ bytes) byte = appended r (with_digit r n b) bytes byte

pub one_more : (r : ℕ) (bytes : List ℕ) (i d : ℕ) → i < length bytes → number_in r (take (i + 1) bytes) ≡ with_digit r (number_in r (take i bytes)) (get_or bytes i d)
one_more r bytes i d within = ap (digits_after r 0) (take_more bytes i d within) ∙ appended r 0 (take i bytes) (get_or bytes i d)

-- ---- the type of a literal

pub taken : (bytes : List ℕ) → take (length (before_type bytes)) bytes ≡ before_type bytes
taken [] = refl
taken (b ∷ bytes) = at ((b == 105) || (b == 117)) (taken bytes) where
  at : (is_type : Bool) → take (length (before_type bytes)) bytes ≡ before_type bytes → take (length (if is_type then [] else b ∷ before_type bytes)) (b ∷ bytes) ≡ (if is_type then [] else b ∷ before_type bytes)
  at true rest = refl
  at false rest = ap (λ x. b ∷ x) rest
