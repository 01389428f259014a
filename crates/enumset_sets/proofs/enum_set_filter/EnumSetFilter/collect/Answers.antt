use Rattle.enumset_sets.specs.Calls.{FilterCollects, left}
use Rattle.std.proofs.Common.{refl}
use Rattle.enumset_sets.specs.Laws.Filters.{bits_collected}
use Rattle.enumset_sets.proofs.enum_set_filter.EnumSetFilter.collect.Goals as goal

pub collect-requires-clause-can : goal.collect-requires-clause-can
collect-requires-clause-can g c = rw c.self.view_is (tt, tt, c.requires.can)

pub collect-requires-clause-can_collect : goal.collect-requires-clause-can_collect
collect-requires-clause-can_collect g c = rw c.self.view_is c.requires.can_collect

pub returns-clause-calls : goal.returns-clause-calls
unfolding FilterCollects
returns-clause-calls g c = rw (← c.self.view_is) c.collect.ensures.ran

pub returns-clause-selected : goal.returns-clause-selected
unfolding left
returns-clause-selected g c = rw (← c.self.view_is) (λ keeps. bits_collected _ _ _ keeps _ refl c.self.invariant.0 _ _ _ c.collect.ensures.ran)
