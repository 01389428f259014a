use Rattle.std.proofs.Common.{◌≡◌, map, fold}
use Rattle.enumset.specs.FixedPoints.{union_over}
use Rattle.enumset.specs.Sets.{union}
use Rattle.example_set_facts.specs.Needs.{needs}
use Rattle.example_set_facts.proofs.needs.needed.Given as goal

-- what the features so far need, with what the remaining ones need
abbrev pub invariant-loop-feature : goal.invariant-loop-feature
invariant-loop-feature l = fold union l.all (map needs l.feature-iterator.items) ≡ union_over needs l.features
