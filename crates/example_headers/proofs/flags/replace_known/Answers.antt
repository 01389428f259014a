use Rattle.std.proofs.Common.{arith}
use Rattle.enumset_repr.specs.Laws.Members.{members, same_set, is_subset_contains}
use Rattle.example_headers.proofs.flags.replace_known.Goals as goal

pub returns-clause-known : goal.returns-clause-known
returns-clause-known c = same_set _ _ (λ q. let inside = is_subset_contains _ _ c.members_are_valid.ensures.valid q in grind (arith, members))

pub returns-clause-reserved : goal.returns-clause-reserved
returns-clause-reserved c = same_set _ _ (λ q. let inside = is_subset_contains _ _ c.members_are_valid.ensures.valid q in grind (arith, members))
