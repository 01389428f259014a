use Rattle.enumset.specs.FixedPoints.{union_over, IsReached}
use Rattle.enumset.specs.Sets.{len, difference, in_place, valid_bits}
use Rattle.example_fixed_points.specs.Tables.{row}
use Rattle.example_fixed_points.specs.contracts.state.State.{the_type}
use Rattle.example_fixed_points.proofs.states.to_come_in_rounds.Given as goal

abbrev pub invariant-loop : goal.invariant-loop
invariant-loop l = IsReached (union_over (row l.table)) l.fn.now l.reached

-- how many states are not reached
abbrev pub decreases-loop : goal.decreases-loop
decreases-loop l = len (difference (valid_bits (in_place the_type)) l.reached)
