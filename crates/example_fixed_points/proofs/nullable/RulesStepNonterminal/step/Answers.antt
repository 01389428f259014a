use Rattle.std.proofs.Common.{◌≡◌, ◌<◌, ◌+◌, ◌∷◌, length, drop, true, false, sym, ◌∙◌, add-one, drop-cons, arith}
use Rattle.std.proofs.lemmas.List.{drop_all}
use Rattle.enumset.specs.Sets.{is_subset}
use Rattle.enumset.specs.FixedPoints.{concluded_met, concluded_unmet, concluded_last}
use Rattle.example_fixed_points.specs.Grammar.{nonterminal}
use Rattle.example_fixed_points.proofs.nullable.RulesStepNonterminal.step.Goals as goal
use Rattle.example_fixed_points.proofs.nullable.RulesStepNonterminal.step.Goals.{then-is_subset_of, else-is_subset_of}

pub loop-rule-preserved : goal.loop-rule-preserved
loop-rule-preserved c =
    let here : c.loop-rule.rule-index < length c.args.self.now.list.now = omega arith in
    let next : drop c.loop-rule.rule-index c.args.self.now.list.now ≡ c.rule-item.result ∷ drop (c.loop-rule.rule-index + 1) c.args.self.now.list.now =
    rw (add-one, c.rule-item.is) (drop-cons _ _ c.rule-item.result here) in
    let before = rw next at c.loop-rule.invariant in
    elim c.if-is_subset_of.branch [
      | then-is_subset_of w ↦
          let met : is_subset c.rule-item.result.parts c.args.from.now ≡ true = sym c.is_subset_of.ensures ∙ w.if-is_subset_of.true in
          rw (w.found-is, w.insert.ensures.inserted) (concluded_met (nonterminal c.rule-item.result.of, c.rule-item.result.parts) _ _ _ met ∙ before)
      | else-is_subset_of w ↦
          let unmet : is_subset c.rule-item.result.parts c.args.from.now ≡ false = sym c.is_subset_of.ensures ∙ w.if-is_subset_of.false in
          rw w.found-is (concluded_unmet (nonterminal c.rule-item.result.of, c.rule-item.result.parts) _ _ _ unmet ∙ before)
    ]

pub returns : goal.returns
returns c =
    let whole = drop_all c.loop-rule.rule-index c.args.self.now.list.now (omega arith) in
    sym (concluded_last _ _) ∙ rw whole at c.loop-rule.invariant
