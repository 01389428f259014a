use Rattle.std.proofs.Common.{◌≡◌, Option, ℕ, List, option_map, map, length, sym, ap, ◌∙◌, arith}
use Rattle.enumset_array.specs.Walks.{answers, items_among}
use Rattle.enumset.proofs.AskedSteps.{answers_next, left_next, asks_next, answers_last, left_last, few_answers, unmapped}
use Rattle.enumset.proofs.laws.asks.walk_iter.Goals as goal

pub loop-i-preserved : goal.loop-i-preserved
loop-i-preserved g c = record {
  yields = answers_next (option_map g.T.EnumSetType.elements.bit) (λ (r : Option ℕ). r) _ c.args.ends.now c.loop-i.i c.loop-i.answers c.step.result c.loop-i.iter.items c.step.new.iter.items c.loop-i-test.true (omega (arith, c.requires, c.loop-i.auto.answers)) c.loop-i.invariant.yields c.step.ensures.answer c.step.ensures.items;
  items = left_next _ _ _ _ _ c.loop-i-test.true c.loop-i.invariant.items c.step.ensures.items;
  asks = asks_next _ _ _ _ _ _ _ _ _ c.loop-i-test.true c.loop-i.invariant.asks c.step.ensures.items c.step.ensures.asks;
}

pub returns : goal.returns
returns g c =
    let left = left_last c.args.ends.now c.loop-i.i c.loop-i.iter.items (omega (arith, c.loop-i-test.false)) in
    let each = answers_last (option_map g.T.EnumSetType.elements.bit) (λ (r : Option ℕ). r) _ c.args.ends.now c.loop-i.i c.loop-i.answers c.loop-i.iter.items (omega (arith, c.loop-i-test.false)) (omega (arith, c.requires, c.loop-i.auto.answers)) c.loop-i.invariant.yields in
    let same : map (option_map g.T.EnumSetType.elements.bit) c.loop-i.answers ≡ answers c.args.iter.now.items c.args.ends.now = each ∙ unmapped _ in
    let few = few_answers c.args.iter.now.items c.args.ends.now in
    let count : length (items_among (map (option_map g.T.EnumSetType.elements.bit) c.loop-i.answers)) ≡ length (items_among (answers c.args.iter.now.items c.args.ends.now)) = ap (λ (l : List (Option ℕ)). length (items_among l)) same in
    record {
      walk = record {
        yields = same;
        leaves = sym left ∙ c.loop-i.invariant.items;
        steps = omega (arith, c.loop-i.invariant.asks);
        yielded = omega (arith, c.loop-i.invariant.asks);
      };
      span = omega (arith, c.loop-i.invariant.asks);
    }
