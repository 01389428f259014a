use Rattle.std.proofs.Common.{◌≡◌}
use Rattle.enumset.specs.Sets.{len, union, difference}
use Rattle.example_rights.proofs.loops.allowed_in_turn.Given as goal

-- the rights allowed so far, with the allowed ones of the remaining rights
abbrev pub invariant-loop-right : goal.invariant-loop-right
invariant-loop-right g l = union l.allowed (difference l.pending l.denied) ≡ difference l.fn.granted l.denied

abbrev pub decreases-loop-right : goal.decreases-loop-right
decreases-loop-right g l = len l.pending
