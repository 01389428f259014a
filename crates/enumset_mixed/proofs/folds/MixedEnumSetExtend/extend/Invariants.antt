use Rattle.std.proofs.Common.{◌≡◌, map}
use Rattle.enumset_repr.specs.BitSet.{union, from_list}
use Rattle.enumset_mixed.proofs.folds.MixedEnumSetExtend.extend.Given as goal

-- the elements so far were inserted
abbrev pub invariant-loop-element : goal.invariant-loop-element
invariant-loop-element g l =
    l.self ≡ union l.fn.self (from_list (map g.T.EnumSetType.elements.bit l.yielded))
