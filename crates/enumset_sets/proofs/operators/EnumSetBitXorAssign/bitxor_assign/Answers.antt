use Rattle.enumset_repr.specs.Laws.Members.{symmetric_difference_is_subset}
use Rattle.enumset_sets.proofs.operators.EnumSetBitXorAssign.bitxor_assign.Goals as goal

pub invariant_of-self : goal.invariant_of-self
invariant_of-self g c = record {
  valid_only = rw c.xor_with.ensures.members (symmetric_difference_is_subset _ _ _ c.self.invariant.valid_only c.rhs.invariant.valid_only);
  is_value = c.xor_with.ensures.value;
  inverse = g.met.T.Repr.EnumSetTypeRepr.represents.inverse _ c.xor_with.ensures.value;
}
