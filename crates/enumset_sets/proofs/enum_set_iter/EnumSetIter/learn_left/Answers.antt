use Rattle.std.proofs.Common.{arith}
use Rattle.enumset_sets.proofs.Left.{few_left}
use Rattle.enumset_sets.proofs.enum_set_iter.EnumSetIter.learn_left.Goals as goal

pub returns : goal.returns
returns g c =
    let few = few_left g.T.EnumSetType.elements _ c.self.invariant _ c.learn_valid_bits.ensures.within in
    record { ascends = rw (← c.self.view_is) c.self.invariant.ascends; fits = rw (← c.self.view_is) (omega (arith, few, c.learn_valid_bits.ensures.width)) }
