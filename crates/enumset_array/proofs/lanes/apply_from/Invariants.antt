use Rattle.std.proofs.Common.{◌*◌}
use Rattle.enumset_array.proofs.WordLanes.{PartMade}
use Rattle.enumset_array.proofs.lanes.apply_from.Given as goal

-- the words so far are replaced, and the others are not
abbrev pub invariant-loop-k : goal.invariant-loop-k
invariant-loop-k g l = PartMade g.O.SetOperation.of_words l.fn.words l.others (16 * l.k) l.words
