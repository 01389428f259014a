use Rattle.std.proofs.Common.{◌≡◌, map, fold}
use Rattle.enumset.specs.Sets.{union}
use Rattle.enumset.specs.FixedPoints.{union_over}
use Rattle.example_fixed_points.specs.Tables.{row}
use Rattle.example_fixed_points.proofs.states.next_of_all.Given as goal

abbrev pub invariant-loop-state : goal.invariant-loop-state
invariant-loop-state l = fold union l.all (map (row l.table) l.state-iterator.items) ≡ union_over (row l.table) l.states
