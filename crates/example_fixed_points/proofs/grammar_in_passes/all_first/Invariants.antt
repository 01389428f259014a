use Rattle.std.proofs.Common.{replicate}
use Rattle.enumset.specs.Sets.{difference, empty, from_list, in_place, valid_bits}
use Rattle.enumset.specs.FixedPoints.{ArePassed, IsPassOverMany, gathered, passes_left}
use Rattle.example_fixed_points.specs.Grammar.{leading_table, leading_tokens_table}
use Rattle.example_fixed_points.specs.contracts.nonterminal.Nonterminal as grammar
use Rattle.example_fixed_points.specs.contracts.token.Token as text
use Rattle.example_fixed_points.proofs.grammar_in_passes.all_first.Given as goal

abbrev pub invariant-loop-of : goal.invariant-loop-of
invariant-loop-of l =
    IsPassOverMany (valid_bits (in_place text.the_type)) (gathered leading_tokens_table leading_table) (replicate 15 empty) l.initial.sets l.sets
    (difference (valid_bits (in_place grammar.the_type)) (from_list l.of-iterator.items)) l.changed

abbrev pub invariant-loop-changed : goal.invariant-loop-changed
invariant-loop-changed l = ArePassed (gathered leading_tokens_table leading_table) (replicate 15 empty) l.sets l.changed

abbrev pub decreases-loop-changed : goal.decreases-loop-changed
decreases-loop-changed l = passes_left (valid_bits (in_place text.the_type)) l.sets l.changed
