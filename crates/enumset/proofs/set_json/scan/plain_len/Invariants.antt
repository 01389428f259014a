use Rattle.std.proofs.Common.{◌*◌, take}
use Rattle.enumset.specs.JsonPlain.{IsPlain}
use Rattle.enumset.proofs.set_json.scan.plain_len.Given as goal

-- the bytes so far are plain
abbrev pub invariant-loop-k : goal.invariant-loop-k
invariant-loop-k l = IsPlain (take (16 * l.k) l.bytes)

abbrev pub invariant-loop-i : goal.invariant-loop-i
invariant-loop-i l = IsPlain (take l.i l.bytes)
