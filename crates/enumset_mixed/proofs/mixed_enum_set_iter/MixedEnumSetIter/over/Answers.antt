use Rattle.std.proofs.Common.{arith, sym}
use Rattle.enumset_repr.specs.Laws.Ascending.{ascending_ascends, len_ascending, len_below}
use Rattle.enumset_mixed.proofs.mixed_enum_set_iter.MixedEnumSetIter.over.Goals as goal

pub invariant_of-result : goal.invariant_of-result
invariant_of-result g c =
    let represents = g.met.T.Repr.EnumSetTypeRepr.represents in
    let few = len_below _ _ (represents.within _ c.learn_is_value.ensures) in
    rw c.iter.ensures.rest (ascending_ascends _, omega (arith, few, sym (len_ascending (g.T.Repr.EnumSetTypeRepr.members c.args.repr))))
