use Rattle.std.proofs.Common.{◌≡◌, true}
use Rattle.enumset.specs.FixedPoints.{leading_to, IsReached, IsPass}
use Rattle.enumset.specs.Sets.{len, difference, from_list, is_subset}
use Rattle.example_set_facts.specs.Needs.{needs, all_features}
use Rattle.example_set_facts.proofs.needs.affected.Given as goal

abbrev pub invariant-loop-feature : goal.invariant-loop-feature
invariant-loop-feature l = (is_subset l.reached all_features ≡ true) × IsReached (leading_to all_features needs) l.fn.from l.reached

-- how many features are not reached
abbrev pub decreases-loop-feature : goal.decreases-loop-feature
decreases-loop-feature l = len (difference all_features l.reached)

abbrev pub invariant-loop-feature-2 : goal.invariant-loop-feature-2
invariant-loop-feature-2 l = (is_subset l.reached all_features ≡ true) × IsPass (leading_to all_features needs) l.fn.from l.before l.reached (from_list l.feature-iterator.items)
