use Rattle.enumset.specs.FixedPoints.{union_over, IsReached}
use Rattle.enumset.specs.Sets.{len, difference, in_place, valid_bits}
use Rattle.example_fixed_points.specs.Tables.{row}
use Rattle.example_fixed_points.specs.contracts.state.State.{the_type}
use Rattle.example_fixed_points.proofs.states.to_come_by_comparison.Given as goal

abbrev pub invariant-loop-reached : goal.invariant-loop-reached
invariant-loop-reached l = IsReached (union_over (row l.table)) l.fn.now l.reached

-- how many states are not reached
abbrev pub decreases-loop-reached : goal.decreases-loop-reached
decreases-loop-reached l = len (difference (valid_bits (in_place the_type)) l.reached)
