-- What is left of the valid bits.
--     fewer_left, fewer_left_than      fewer valid bits are left after a set gets a member that it lacks, or the
--         members of a set that has such a member
-- The ruleset `fewer` has both, for the measure of a loop that goes on until nothing changes.
use Rattle.std.proofs.Common.{◌≡◌, ◌<◌, ℕ, true, false, true≢false, arith, sym, ap, ◌∙◌}
use Rattle.std.proofs.lemmas.Bool.{false_from_ne_true}
use Rattle.enumset_repr.specs.BitSet.{BitSet, contains, insert, remove, union, difference, is_subset, len}
use Rattle.enumset_repr.specs.Laws.Counting.{len_proper, len_removed}
use Rattle.enumset_repr.specs.Rules.Members.{decided}
use Rattle.enumset_repr.specs.Laws.Members.{members, is_subset_contains, contains_is_subset, is_same_iff}

pub fewer_left : (all s : BitSet) (b : ℕ) → contains all b ≡ true → contains s b ≡ false → len (difference all (insert s b)) < len (difference all s)
fewer_left all s b valid lacks =
    let here : contains (difference all s) b ≡ true = grind (arith, decided) in
    let left : difference all (insert s b) ≡ remove (difference all s) b = grind (arith, decided) in
    omega (arith, ap len left, len_removed (difference all s) b here)

pub fewer_left_than : (all s t : BitSet) → is_subset t all ≡ true → is_subset t s ≡ false → len (difference all (union s t)) < len (difference all s)
fewer_left_than all s t valid more =
    let part : is_subset (difference all (union s t)) (difference all s) ≡ true = grind (arith, decided) in
    len_proper _ _ part (false_from_ne_true _ (λ same. true≢false (sym (contains_is_subset t s (λ q one.
    let inside = is_subset_contains t all valid q one in
    let alike = ap (λ u. contains u q) ((is_same_iff _ _).0 same) in
    grind (arith, members))) ∙ more)))

pub ruleset fewer = (fewer_left, fewer_left_than)
