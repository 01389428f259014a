use Rattle.std.proofs.Common.{◌≡◌, nat_lt, find}
use Rattle.enumset.specs.Sets.{ascending}
use Rattle.example_rights.proofs.loops.next_granted.Given as goal

-- the first of the remaining ones is the first of all
abbrev pub invariant-loop-right : goal.invariant-loop-right
invariant-loop-right g l = find (nat_lt l.bit) l.right-iterator.items ≡ find (nat_lt l.bit) (ascending l.granted)
