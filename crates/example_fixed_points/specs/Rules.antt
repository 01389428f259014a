-- Rules of a grammar as rules of inference.
--     conditions      the bit of the nonterminal of each rule, with its parts
use Rattle.std.specs.Prelude.{ℕ, List, map}
use Rattle.enumset.specs.Sets.{BitSet}
use Rattle.example_fixed_points.specs.Grammar.{nonterminal}
use Rattle.example_fixed_points.specs.declared.nullable.Rule.{Rule}

abbrev pub conditions : List Rule → List (ℕ × BitSet)
conditions rules = map (λ rule. (nonterminal rule.of, rule.parts)) rules
