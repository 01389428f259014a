use Rattle.std.proofs.Common.{rules}
use Rattle.enumset_sets.specs.Laws.FixedPoints.{union_over_reachable}
use Rattle.example_expressions.specs.First.{leading_kinds_of, leading_parts_of}
use Rattle.example_expressions.proofs.Firsts.{reachable_begins}
use Rattle.example_expressions.proofs.first.first_kinds.Goals as goal

pub returns : goal.returns
returns c kind =
    let found = union_over_reachable leading_parts_of leading_kinds_of _ _ (c.reachable.ensures leading_parts_of (search rules)) kind in
    let begins = rw (← c.only.ensures) at (reachable_begins c.args.whole kind) in
    rw c.all_leading_kinds.ensures (λ one. begins.0 (found.0 one), λ is. found.1 (begins.1 is))
