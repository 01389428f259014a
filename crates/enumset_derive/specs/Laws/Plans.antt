-- A lawful plan proves the laws of every enum without fields that has as many variants.
--     lawful_number, lawful_words      the test of an enum, from the test of `without_fields` with as many variants
--     variants_of      `without_fields n` has n variants
use Rattle.std.proofs.Common.{◌≡◌, ◌==◌, ℕ, suc, zero, ◌^◌, Bool, true, false, List, [], length, replicate, sum_by, refl, ap, sym, ◌∙◌, subst}
use denote.Enum.Bare.{Bare}
use denote.Enum.Declared.{Declared, rowss}
use Rattle.enumset_repr.specs.Lawful.{one_past_all, once_known, or_else, IsLawful, IsLawfulNumber, IsLawfulWords, BitCountShouldBe}
use Rattle.enumset_repr.specs.Number.{is_distinct}
use Rattle.enumset_repr.specs.Words.{lists_words}
use Rattle.enumset_derive.specs.Plans.{without_fields}

pub variants_of : (n : ℕ) → length (rowss (replicate n [])) ≡ n
variants_of zero = refl
variants_of (suc n) = ap suc (variants_of n)

-- from a test under `once_known` to the test, and back
was_known : (n : ℕ) (next : Type 0) → once_known n next → next
was_known zero next h = h
was_known (suc n) next h = h

pub known : (n : ℕ) (next : Type 0) → next → once_known n next
known zero next h = h
known (suc n) next h = h

-- an `or_else` implies another one with the same test, if its fault implies the other's, and its next test the other's
carried : (test : Bool) (fault fault' next next' : Type 0) → (fault → fault') → (next → next') → or_else test fault next → or_else test fault' next'
carried true fault fault' next next' f g h = g h
carried false fault fault' next next' f g h = f h

-- the test that the bits are as many as the variants, for two enums with equally many variants
counted : (m n n' : ℕ) (next next' : Type 0) → n ≡ n' → (next → next') → or_else (m == n) (BitCountShouldBe n) next → or_else (m == n') (BitCountShouldBe n') next'
counted m n n' next next' same g h =
    let P : ℕ → Type 0 = λ k. or_else (m == k) (BitCountShouldBe k) next' in
    subst P same (carried (m == n) (BitCountShouldBe n) (BitCountShouldBe n) next next' (λ x. x) g h)

at_each : (D E : Declared) (bs : List ℕ) (valid : Bool) (fault : Type 0) (width count : ℕ) → length (rowss E.parts) ≡ length (rowss D.parts) → Bare D.parts → IsLawful E bs valid fault width count → IsLawful D bs valid fault width count
at_each D E bs valid fault width count same bare test =
    known width _ (known count _
    (counted (length bs) (length (rowss E.parts)) (length (rowss D.parts)) _ _ same
    (carried (is_distinct bs) _ _ _ _ (λ h. h)
    (carried valid _ _ _ _ (λ h. h)
    (carried (one_past_all bs == width) _ _ _ _ (λ h. h)
    (carried (length bs == count) _ _ _ _ (λ h. h) (λ _. bare)))))
    (was_known count _ (was_known width _ test))))

pub lawful_number : (D : Declared) (bs : List ℕ) (n all width count : ℕ) → length (rowss D.parts) ≡ n → Bare D.parts → IsLawfulNumber (without_fields n) bs all width count → IsLawfulNumber D bs all width count
lawful_number D bs n all width count many bare test =
    at_each D (without_fields n) bs (sum_by (λ b. 2 ^ b) bs == all) _ width count (variants_of n ∙ sym many) bare test

pub lawful_words : (D : Declared) (bs ns : List ℕ) (n width count : ℕ) → length (rowss D.parts) ≡ n → Bare D.parts → IsLawfulWords (without_fields n) bs ns width count → IsLawfulWords D bs ns width count
lawful_words D bs ns n width count many bare test =
    at_each D (without_fields n) bs (lists_words bs ns) _ width count (variants_of n ∙ sym many) bare test
