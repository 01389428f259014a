use Rattle.std.proofs.Common.{◌≡◌, ◌+◌, ◌≤◌, ◌++◌, Option, ℕ, option_map, map, take, drop, length}
use Rattle.enumset_array.specs.Walks.{answers, without_answers, items_among}
use Rattle.enumset.proofs.laws.asks.walk_iter.Given as goal

-- the steps so far with those still to come yield what all steps yield, and leave what they leave; the steps to come
-- raise the sum of asks and span to at most its bound
abbrev pub invariant-loop-i : goal.invariant-loop-i
invariant-loop-i g l = record {
  yields : map (option_map g.T.EnumSetType.elements.bit) (take l.i l.answers) ++ map (λ (r : Option ℕ). r) (answers l.iter.items (drop l.i l.ends)) ≡ map (λ (r : Option ℕ). r) (answers l.initial.iter.items l.ends);
  items : without_answers l.iter.items (drop l.i l.ends) ≡ without_answers l.initial.iter.items l.ends;
  asks : l.iter.asks + l.iter.span + length (items_among (answers l.iter.items (drop l.i l.ends))) ≤ l.initial.iter.asks + l.initial.iter.span + length (items_among (answers l.initial.iter.items l.ends));
}
