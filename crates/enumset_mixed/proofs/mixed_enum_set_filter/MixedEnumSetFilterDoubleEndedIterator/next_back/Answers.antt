use Rattle.enumset_sets.specs.Laws.Filters.{after_step_back}
use Rattle.enumset_mixed.specs.Laws.Items.{items_last}
use Rattle.enumset_mixed.proofs.mixed_enum_set_filter.MixedEnumSetFilterDoubleEndedIterator.next_back.Goals as goal

pub next_back-requires : goal.next_back-requires
next_back-requires g c = (tt, tt, rw c.self.view_is c.requires)

pub returns-clause-steps : goal.returns-clause-steps
returns-clause-steps g c = rw (← c.self.view_is) c.next_back.ensures.steps

pub invariant_of-self : goal.invariant_of-self
invariant_of-self g c = after_step_back _ _ _ (items_last g.T.EnumSetType.elements) _ _ _ c.next_back.ensures.steps c.self.invariant
