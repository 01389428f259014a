use Rattle.enumset_repr.specs.BitSet.{len, difference}
use Rattle.enumset_sets.specs.Elements.{valid_bits}
use Rattle.enumset_sets.specs.FixedPoints.{IsReached}
use Rattle.enumset_sets.proofs.fixed_points.least_closed.Given as goal

abbrev pub invariant-loop-reached : goal.invariant-loop-reached
invariant-loop-reached g l = IsReached (g.S.Step.step l.step) l.fn.start l.reached

-- how many variants are not reached
abbrev pub decreases-loop-reached : goal.decreases-loop-reached
decreases-loop-reached g l = len (difference (valid_bits g.T.EnumSetType.elements) l.reached)
