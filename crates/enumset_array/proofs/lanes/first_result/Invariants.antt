use Rattle.std.proofs.Common.{◌≡◌, ◌*◌, take, true}
use Rattle.std.specs.Simd.Lanes.{zip2}
use Rattle.enumset_array.proofs.WordLanes.{none_in}
use Rattle.enumset_array.proofs.lanes.first_result.Given as goal

-- the results for the first k blocks of sixteen words are 0
abbrev pub invariant-loop-k : goal.invariant-loop-k
invariant-loop-k g l = none_in (take (16 * l.k) (zip2 g.O.SetOperation.of_words l.words l.others)) ≡ true
