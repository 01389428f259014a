use Rattle.std.proofs.Common.{◌*◌}
use Rattle.enumset_array.proofs.WordLanes.{PartMade}
use Rattle.enumset_array.proofs.lanes.apply_by_four.Given as goal

-- the words so far are replaced, and the others are not
abbrev pub invariant-loop-k : goal.invariant-loop-k
invariant-loop-k g l = PartMade g.O.SetOperation.of_words l.fn.words l.others (4 * l.k) l.words

abbrev pub invariant-loop-i : goal.invariant-loop-i
invariant-loop-i g l = PartMade g.O.SetOperation.of_words l.fn.words l.others l.i l.words
