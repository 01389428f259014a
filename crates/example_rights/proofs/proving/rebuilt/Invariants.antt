use Rattle.std.proofs.Common.{◌≡◌}
use Rattle.enumset.specs.Sets.{insert_each}
use Rattle.example_rights.proofs.proving.rebuilt.Given as goal

-- the copy, with the remaining rights, is the granted set
abbrev pub invariant-loop-right : goal.invariant-loop-right
invariant-loop-right g l = insert_each l.copy l.right-iterator.items ≡ l.granted
