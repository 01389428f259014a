use Rattle.std.proofs.Common.{take}
use Rattle.enumset.specs.JsonPlain.{AreSpaces}
use Rattle.enumset.proofs.set_json.scan.split_spaces.Given as goal

-- the bytes so far are spaces
abbrev pub invariant-loop-i : goal.invariant-loop-i
invariant-loop-i l = AreSpaces (take l.i l.bytes)
