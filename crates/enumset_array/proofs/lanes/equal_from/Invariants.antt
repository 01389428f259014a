use Rattle.std.proofs.Common.{◌≡◌, ◌-◌, ◌*◌, length, drop}
use Rattle.enumset_array.proofs.lanes.equal_from.Given as goal

-- the last k blocks of sixteen words are equal
abbrev pub invariant-loop-k : goal.invariant-loop-k
invariant-loop-k l = drop (length l.words - 16 * l.k) l.words ≡ drop (length l.words - 16 * l.k) l.others
