use Rattle.std.proofs.Common.{◌≡◌, arith}
use Rattle.enumset.specs.Sets.{empty}
use Rattle.enumset_repr.specs.Laws.Members.{members, same_set}
use Rattle.enumset_repr.specs.Laws.Ascending.{is_empty_iff}
use Rattle.example_permissions.proofs.decision.decide.Goals as goal

pub returns-else-is_empty-clause-allowed : goal.returns-else-is_empty-clause-allowed
returns-else-is_empty-clause-allowed c = (
  λ same. absurd (cc),
  λ allowed.
      let none : c.sub-missing.result ≡ empty = same_set _ _ (λ q.
      let granted = c.granted.ensures q in
      let all = allowed q in
      grind (arith, members)) in
      absurd (grind (arith, is_empty_iff)),
)
