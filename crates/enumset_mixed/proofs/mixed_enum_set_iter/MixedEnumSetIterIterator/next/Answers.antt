use Rattle.enumset_mixed.specs.Laws.Items.{few_after}
use Rattle.enumset_mixed.proofs.mixed_enum_set_iter.MixedEnumSetIterIterator.next.Goals as goal

pub invariant_of-self-2 : goal.invariant_of-self-2
invariant_of-self-2 g c = few_after _ _ _ (g.met.T.Repr.EnumSetTypeRepr.listed.step _ _ _ c.next.ensures.steps) c.self.invariant
