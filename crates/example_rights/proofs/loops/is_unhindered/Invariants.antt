use Rattle.std.proofs.Common.{◌≡◌}
use Rattle.std.specs.List.{list_any}
use Rattle.enumset.specs.Sets.{contains, ascending}
use Rattle.example_rights.proofs.loops.is_unhindered.Given as goal

-- one of the remaining ones is denied exactly if one of all is
abbrev pub invariant-loop-right : goal.invariant-loop-right
invariant-loop-right g l = list_any (contains l.denied) l.right-iterator.items ≡ list_any (contains l.denied) (ascending l.granted)
