use Rattle.std.proofs.Common.{◌≡◌, map, fold}
use Rattle.enumset.specs.Sets.{union}
use Rattle.enumset.specs.FixedPoints.{union_over}
use Rattle.example_fixed_points.specs.Grammar.{following_tokens_table}
use Rattle.example_fixed_points.proofs.grammar.all_following_tokens.Given as goal

abbrev pub invariant-loop-nonterminal : goal.invariant-loop-nonterminal
invariant-loop-nonterminal l = fold union l.tokens (map following_tokens_table l.nonterminal-iterator.items) ≡ union_over following_tokens_table l.of
