-- The terms of clauses about least fixed points, and their laws, in one module.
--     union_over      the union of the sets that the members of a set lead to
--     IsMonotone, IsClosed, IsReached, IsLeastClosed      steps from sets to sets, and what they reach
--     leading_to      the numbers of a set that lead to some member of another set
--     IsWorklist, IsPass, IsReachable      searches, and what they find; at_start and from_other make an IsReachable
--     LeadsBy      a closure that returns to which elements its argument leads
--     concluded      what follows from a set by rules
--     set_at, AreWithin, IsMonotoneForMany, AreClosed, AreReached, AreLeastClosed      the same for several sets at
--         once
--     gathered      the step that takes sets from other places
--     IsPassOverMany, ArePassed, lacking, passes_left      passes over several sets, and the measure of a loop over
--         them
--     the laws, which docs/LAWS.md lists
-- `ghost use Rattle.enumset.specs.FixedPoints.{IsLeastClosed, union_over};`
pub use Rattle.enumset_sets.specs.FixedPoints.{IsMonotone, IsClosed, IsReached, IsLeastClosed, IsWorklist, IsPass, IsReachable, at_start, from_other, LeadsBy}
unfoldable pub use Rattle.enumset_sets.specs.FixedPoints.{union_over, leading_to}
pub use Rattle.enumset_sets.specs.FixedPointsOfMany.{set_at, AreWithin, IsMonotoneForMany, AreClosed, AreReached, AreLeastClosed, lacking, passes_left, IsPassOverMany, ArePassed}
unfoldable pub use Rattle.enumset_sets.specs.FixedPointsOfMany.{gathered}
unfoldable pub use Rattle.enumset_sets.specs.Inferences.{concluded}
-- the laws
pub use Rattle.enumset_sets.specs.Laws.Counts.{fewer, fewer_left, fewer_left_than}
pub use Rattle.enumset_sets.specs.Laws.FixedPoints.{union_over_is_subset, union_over_each, row_in_union_over, contains_union_over, union_over_insert, monotone_union_over, monotone_leading_to, contains_leading_to, leading_to_is_subset, monotone_itself, monotone_constant, monotone_after, monotone_union, monotone_intersection, monotone_difference, monotone_retain, reached_first, reached_part, reached_more, reached_one, reached_all, reached_last, least_closed_reached, least_closed_unique, least_closed_fixed, worklist_first, worklist_next, pending_next, pending_apart, worklist_smaller, worklist_last, pass_first, pass_adds, pass_by, pass_last, pass_smaller, least_closed_each, least_closed_reachable, union_over_reachable}
pub use Rattle.enumset_sets.specs.Laws.FixedPointsOfMany.{within_itself, within_trans, within_antisym, many_constant, many_place, many_after, many_union, many_intersection, many_difference, many_retain, many_union_over, many_gathered, many_reached_first, many_reached_one, many_reached_all, many_least_closed_unique, many_least_closed_fixed, many_lacking_less, many_pass_first, many_pass_next, below_first, below_next, below_whole, many_pass_last, passed_first, passed_last, passed_smaller}
pub use Rattle.enumset_sets.specs.Laws.Flows.{many_least_closed_each, reachable_before, gathered_reachable, gathered_reachable_from_empty}
pub use Rattle.enumset_sets.specs.Laws.Inferences.{concluded_by, monotone_concluded, concluded_first, concluded_met, concluded_unmet, concluded_last}
pub use Rattle.enumset_sets.specs.Laws.Rounds.{round_last, round_smaller, round_last_len, round_smaller_len}
pub use Rattle.enumset_sets.specs.Laws.Places.{range_below, valid_in_place, place_below, passed_next, passed_whole}
