use Rattle.enumset.specs.FixedPoints.{union_over, IsReached}
use Rattle.enumset.specs.Sets.{len, difference}
use Rattle.example_set_facts.specs.Needs.{needs, all_features}
use Rattle.example_set_facts.proofs.needs.with_needs.Given as goal

abbrev pub invariant-loop : goal.invariant-loop
invariant-loop l = IsReached (union_over needs) l.fn.from l.reached

-- how many features are not reached
abbrev pub decreases-loop : goal.decreases-loop
decreases-loop l = len (difference all_features l.reached)
