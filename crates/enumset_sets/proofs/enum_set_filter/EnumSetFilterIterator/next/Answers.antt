use Rattle.enumset_sets.specs.Laws.Calls.{bits_first}
use Rattle.enumset_sets.specs.Laws.Filters.{after_step}
use Rattle.enumset_sets.proofs.enum_set_filter.EnumSetFilterIterator.next.Goals as goal

pub next-requires : goal.next-requires
next-requires g c = (tt, tt, rw c.self.view_is c.requires)

pub returns-clause-steps : goal.returns-clause-steps
returns-clause-steps g c = rw (← c.self.view_is) c.next.ensures.steps

pub invariant_of-self : goal.invariant_of-self
invariant_of-self g c = after_step _ _ _ (bits_first g.T.EnumSetType.elements.bit) _ _ _ c.next.ensures.steps c.self.invariant
