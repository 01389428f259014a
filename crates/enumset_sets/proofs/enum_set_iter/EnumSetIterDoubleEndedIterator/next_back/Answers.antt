use Rattle.enumset_sets.proofs.Left.{after_last}
use Rattle.enumset_sets.proofs.enum_set_iter.EnumSetIterDoubleEndedIterator.next_back.Goals as goal

pub invariant_of-self-2 : goal.invariant_of-self-2
invariant_of-self-2 g c = after_last _ _ _ _ (g.met.T.Repr.EnumSetTypeRepr.listed.step_back _ _ _ c.next_back.ensures.steps) c.self.invariant
