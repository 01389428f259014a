use Rattle.enumset_sets.proofs.Left.{after_first}
use Rattle.enumset_sets.proofs.enum_set_iter.EnumSetIterIterator.next.Goals as goal

pub invariant_of-self-2 : goal.invariant_of-self-2
invariant_of-self-2 g c = after_first _ _ _ _ (g.met.T.Repr.EnumSetTypeRepr.listed.step _ _ _ c.next.ensures.steps) c.self.invariant
