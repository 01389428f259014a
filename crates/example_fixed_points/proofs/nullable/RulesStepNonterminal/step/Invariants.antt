use Rattle.std.proofs.Common.{◌≡◌, drop}
use Rattle.enumset.specs.Sets.{union}
use Rattle.enumset.specs.FixedPoints.{concluded}
use Rattle.example_fixed_points.specs.Rules.{conditions}
use Rattle.example_fixed_points.proofs.nullable.RulesStepNonterminal.step.Given as goal

abbrev pub invariant-loop-rule : goal.invariant-loop-rule
invariant-loop-rule l = union l.found (concluded (conditions (drop l.rule-index l.self.list.now)) l.from) ≡ concluded (conditions l.self.list.now) l.from
