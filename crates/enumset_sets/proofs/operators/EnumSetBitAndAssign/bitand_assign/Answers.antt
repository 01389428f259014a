use Rattle.enumset_repr.specs.Laws.Members.{intersection_is_subset}
use Rattle.enumset_sets.proofs.operators.EnumSetBitAndAssign.bitand_assign.Goals as goal

pub invariant_of-self : goal.invariant_of-self
invariant_of-self g c = record {
  valid_only = rw c.and_with.ensures.members (intersection_is_subset _ _ _ c.self.invariant.valid_only);
  is_value = c.and_with.ensures.value;
  inverse = g.met.T.Repr.EnumSetTypeRepr.represents.inverse _ c.and_with.ensures.value;
}
