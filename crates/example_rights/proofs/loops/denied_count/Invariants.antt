use Rattle.std.proofs.Common.{◌≡◌, ◌+◌, count_by}
use Rattle.enumset.specs.Sets.{contains, ascending}
use Rattle.example_rights.proofs.loops.denied_count.Given as goal

-- the count so far, plus the count of the elements to come
abbrev pub invariant-loop-right : goal.invariant-loop-right
invariant-loop-right g l = l.count + count_by (contains l.denied) l.right-iterator.items ≡ count_by (contains l.denied) (ascending l.granted)
