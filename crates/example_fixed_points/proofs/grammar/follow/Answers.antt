use Rattle.std.proofs.Common.{rules}
use Rattle.enumset.specs.FixedPoints.{union_over_reachable}
use Rattle.example_fixed_points.specs.Grammar.{enclosing_table, following_tokens_table}
use Rattle.example_fixed_points.proofs.grammar.follow.Goals as goal

pub returns : goal.returns
returns c q = rw (c.all_following_tokens.ensures, ← c.only.ensures) (union_over_reachable enclosing_table following_tokens_table _ _ (c.reachable.ensures enclosing_table (search rules)) q)
