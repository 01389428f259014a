use Rattle.std.proofs.Common.{◌≡◌, map, fold}
use Rattle.enumset.specs.Sets.{union}
use Rattle.enumset.specs.FixedPoints.{set_at, union_over}
use Rattle.example_fixed_points.proofs.grammar_in_passes.sets_of.Given as goal

abbrev pub invariant-loop-nonterminal : goal.invariant-loop-nonterminal
invariant-loop-nonterminal l = fold union l.all (map (set_at l.sets) l.nonterminal-iterator.items) ≡ union_over (set_at l.sets) l.of
