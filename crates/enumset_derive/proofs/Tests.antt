-- The test of an element type, from its parts.
use Rattle.std.proofs.Common.{◌≡◌, ℕ, suc, zero, Bool, true, false, List, [], length, replicate, sym, ◌∙◌, eq-eqb}
use denote.Enum.Bare.{Bare}
use Rattle.enumset_repr.specs.Lawful.{one_past_all, or_else, IsLawful}
use Rattle.enumset_repr.specs.Number.{is_distinct}
use Rattle.enumset_derive.specs.Laws.Plans.{variants_of, known}
use Rattle.enumset_derive.specs.Plans.{without_fields}

past : (test : Bool) (fault next : Type 0) → test ≡ true → next → or_else test fault next
past true fault next passes h = h
past false fault next passes h = absurd (cc)

bare_of : (n : ℕ) → Bare (replicate n [])
bare_of zero = tt
bare_of (suc n) = bare_of n

pub lawful_of : (n : ℕ) (bs : List ℕ) (valid : Bool) (fault : Type 0) (width : ℕ) → length bs ≡ n → valid ≡ true → is_distinct bs ≡ true → width ≡ one_past_all bs → IsLawful (without_fields n) bs valid fault width n
lawful_of n bs valid fault width many all apart reach =
    known width _ (known n _
    (past _ _ _ (eq-eqb (length bs) _ (many ∙ sym (variants_of n)))
    (past _ _ _ apart
    (past _ _ _ all
    (past _ _ _ (eq-eqb _ width (sym reach))
    (past _ _ _ (eq-eqb (length bs) n many) (bare_of n)))))))
