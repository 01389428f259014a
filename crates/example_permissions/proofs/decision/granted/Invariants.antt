use Rattle.std.proofs.Common.{◌≡◌, ℕ, ◌||◌, drop}
use Rattle.enumset.specs.Sets.{contains}
use Rattle.example_permissions.specs.Policy.{is_granted}
use Rattle.example_permissions.proofs.decision.granted.Given as goal

-- the rights so far, with the rights of the remaining grants
abbrev pub invariant-loop-grant : goal.invariant-loop-grant
invariant-loop-grant l = (q : ℕ) → (contains l.rights q || is_granted (drop l.grant-index l.grants) l.roles q) ≡ is_granted l.grants l.roles q
