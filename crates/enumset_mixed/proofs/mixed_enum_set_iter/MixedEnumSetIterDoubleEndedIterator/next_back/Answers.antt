use Rattle.enumset_mixed.specs.Laws.Items.{few_after_back}
use Rattle.enumset_mixed.proofs.mixed_enum_set_iter.MixedEnumSetIterDoubleEndedIterator.next_back.Goals as goal

pub invariant_of-self-2 : goal.invariant_of-self-2
invariant_of-self-2 g c = few_after_back _ _ _ (g.met.T.Repr.EnumSetTypeRepr.listed.step_back _ _ _ c.next_back.ensures.steps) c.self.invariant
