use Rattle.enumset.specs.FixedPoints.{IsWorklist}
use Rattle.enumset.specs.Sets.{len, difference}
use Rattle.example_set_facts.specs.Needs.{needs, all_features}
use Rattle.example_set_facts.proofs.needs.needed_in_turn.Given as goal

abbrev pub invariant-loop-feature : goal.invariant-loop-feature
invariant-loop-feature l = IsWorklist needs l.fn.from l.done l.pending

-- how many features are not done
abbrev pub decreases-loop-feature : goal.decreases-loop-feature
decreases-loop-feature l = len (difference all_features l.done)
