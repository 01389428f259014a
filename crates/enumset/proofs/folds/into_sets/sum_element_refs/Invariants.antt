use Rattle.std.proofs.Common.{◌≡◌, map}
use Rattle.enumset_repr.specs.BitSet.{from_list}
use Rattle.enumset.proofs.folds.into_sets.sum_element_refs.Given as goal

-- the elements so far were inserted
abbrev pub invariant-loop-element : goal.invariant-loop-element
invariant-loop-element g l =
    l.all ≡ from_list (map (λ t. g.T.EnumSetType.elements.bit t.now) l.yielded)
