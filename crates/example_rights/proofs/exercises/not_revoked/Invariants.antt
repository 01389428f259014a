use Rattle.std.proofs.Common.{◌≡◌}
use Rattle.enumset.specs.Sets.{from_list, difference}
use Rattle.example_rights.proofs.exercises.not_revoked.Given as goal

-- what is left, without the rights still to be revoked
abbrev pub invariant-loop-right : goal.invariant-loop-right
invariant-loop-right g l = difference l.left (from_list l.right-iterator.items) ≡ difference l.fn.granted l.revoked
