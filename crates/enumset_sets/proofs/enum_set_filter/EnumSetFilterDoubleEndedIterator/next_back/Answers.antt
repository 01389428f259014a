use Rattle.enumset_sets.specs.Laws.Calls.{bits_last}
use Rattle.enumset_sets.specs.Laws.Filters.{after_step_back}
use Rattle.enumset_sets.proofs.enum_set_filter.EnumSetFilterDoubleEndedIterator.next_back.Goals as goal

pub next_back-requires : goal.next_back-requires
next_back-requires g c = (tt, tt, rw c.self.view_is c.requires)

pub returns-clause-steps : goal.returns-clause-steps
returns-clause-steps g c = rw (← c.self.view_is) c.next_back.ensures.steps

pub invariant_of-self : goal.invariant_of-self
invariant_of-self g c = after_step_back _ _ _ (bits_last g.T.EnumSetType.elements.bit) _ _ _ c.next_back.ensures.steps c.self.invariant
