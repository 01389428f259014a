use Rattle.std.proofs.Common.{rules}
use Rattle.enumset.specs.FixedPoints.{union_over_reachable}
use Rattle.example_fixed_points.specs.Grammar.{leading_table, leading_tokens_table}
use Rattle.example_fixed_points.proofs.grammar.first.Goals as goal

pub returns : goal.returns
returns c q = rw (c.all_leading_tokens.ensures, ← c.only.ensures) (union_over_reachable leading_table leading_tokens_table _ _ (c.reachable.ensures leading_table (search rules)) q)
