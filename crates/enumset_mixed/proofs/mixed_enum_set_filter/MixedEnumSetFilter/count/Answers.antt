use Rattle.std.proofs.Common.{inl, arith, refl}
use Rattle.enumset_sets.specs.Calls.{FilterCounts, left}
use Rattle.enumset_sets.specs.Laws.Filters.{counted}
use Rattle.enumset_mixed.specs.Laws.Items.{items_first}
use Rattle.enumset_mixed.proofs.mixed_enum_set_filter.MixedEnumSetFilter.count.Goals as goal

pub count-requires-clause-can : goal.count-requires-clause-can
count-requires-clause-can g c = rw c.self.view_is (tt, tt, c.requires)

pub count-requires-clause-fits : goal.count-requires-clause-fits
count-requires-clause-fits g c = inl (omega (arith, c.self.invariant.1))

pub returns-clause-calls : goal.returns-clause-calls
unfolding FilterCounts
returns-clause-calls g c = rw (← c.self.view_is) c.count.ensures.ran

pub returns-clause-selected : goal.returns-clause-selected
unfolding left
returns-clause-selected g c =
    rw (← c.self.view_is) (λ keeps. counted _ _ (items_first g.T.EnumSetType.elements) _ _ keeps _ refl c.self.invariant.0 _ c.count.ensures.ran)
