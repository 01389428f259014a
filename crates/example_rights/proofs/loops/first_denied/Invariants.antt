use Rattle.std.proofs.Common.{◌≡◌, find}
use Rattle.enumset.specs.Sets.{contains, ascending}
use Rattle.example_rights.proofs.loops.first_denied.Given as goal

-- the first of the remaining ones is the first of all
abbrev pub invariant-loop-right : goal.invariant-loop-right
invariant-loop-right g l = find (contains l.denied) l.right-iterator.items ≡ find (contains l.denied) (ascending l.granted)
