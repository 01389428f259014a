use Rattle.std.proofs.Common.{take}
use Rattle.enumset_derive.specs.JsonNames.{AreJsonNames}
use Rattle.enumset_derive.proofs.read.json_names.json_names.Given as goal

-- the names so far are those of the variants so far
abbrev pub invariant-loop-i : goal.invariant-loop-i
invariant-loop-i l = AreJsonNames l.style (take l.i l.variants) l.names.items
