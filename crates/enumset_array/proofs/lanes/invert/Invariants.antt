use Rattle.std.proofs.Common.{◌*◌, w64}
use Rattle.std.specs.Int.{bit_not}
use Rattle.enumset_array.proofs.WordLanes.{PartMade}
use Rattle.enumset_array.proofs.lanes.invert.Given as goal

-- the words so far are inverted, and the others are not
abbrev pub invariant-loop-k : goal.invariant-loop-k
invariant-loop-k l = PartMade (λ w _. bit_not w64 w) l.fn.words l.fn.words (4 * l.k) l.words

abbrev pub invariant-loop-i : goal.invariant-loop-i
invariant-loop-i l = PartMade (λ w _. bit_not w64 w) l.fn.words l.fn.words l.i l.words
