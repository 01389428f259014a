use Rattle.std.proofs.Common.{◌≡◌, map, take}
use Rattle.enumset_repr.specs.BitSet.{from_list}
use Rattle.enumset_sets.proofs.folds.of_slice.Given as goal

-- the elements so far were inserted
abbrev pub invariant-loop-value : goal.invariant-loop-value
invariant-loop-value g l =
    l.all ≡ from_list (map g.T.EnumSetType.elements.bit (take l.value-index l.values))
