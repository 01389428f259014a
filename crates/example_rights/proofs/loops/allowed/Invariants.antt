use Rattle.std.proofs.Common.{◌≡◌}
use Rattle.enumset.specs.Sets.{from_list, union, difference}
use Rattle.example_rights.proofs.loops.allowed.Given as goal

-- the rights allowed so far, with the allowed ones of the remaining rights
abbrev pub invariant-loop-right : goal.invariant-loop-right
invariant-loop-right g l = union l.allowed (difference (from_list l.right-iterator.items) l.denied) ≡ difference l.granted l.denied
