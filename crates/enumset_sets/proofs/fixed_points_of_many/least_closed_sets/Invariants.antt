use Rattle.enumset_repr.specs.BitSet.{below}
use Rattle.enumset_sets.specs.Elements.{valid_bits}
use Rattle.enumset_sets.specs.FixedPointsOfMany.{IsPassOverMany, ArePassed, passes_left}
use Rattle.enumset_sets.proofs.fixed_points_of_many.least_closed_sets.Given as goal

abbrev pub invariant-loop-place : goal.invariant-loop-place
invariant-loop-place g l = IsPassOverMany (valid_bits g.T.EnumSetType.elements) (g.S.StepForMany.step l.step) l.fn.sets l.initial.sets l.sets (below l.place) l.changed

abbrev pub invariant-loop-changed : goal.invariant-loop-changed
invariant-loop-changed g l = ArePassed (g.S.StepForMany.step l.step) l.fn.sets l.sets l.changed

abbrev pub decreases-loop-changed : goal.decreases-loop-changed
decreases-loop-changed g l = passes_left (valid_bits g.T.EnumSetType.elements) l.sets l.changed
