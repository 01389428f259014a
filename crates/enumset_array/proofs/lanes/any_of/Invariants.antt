use Rattle.std.proofs.Common.{◌≡◌, ◌+◌, ◌*◌, ◌/◌, length, take, ◌==◌}
use Rattle.std.specs.Simd.Lanes.{zip2}
use Rattle.enumset_array.proofs.WordLanes.{none_in}
use Rattle.enumset_array.proofs.lanes.any_of.Given as goal

-- the lanes are 0 exactly if each result so far is 0, and then so is `any`
abbrev pub invariant-loop-chunk : goal.invariant-loop-chunk
invariant-loop-chunk g l = none_in l.lanes ≡ none_in (take (4 * length l.yielded) (zip2 g.O.SetOperation.of_words l.words l.others))

abbrev pub invariant-loop-word : goal.invariant-loop-word
invariant-loop-word g l = (l.any == 0) ≡ none_in (take (length l.words / 4 * 4 + length l.yielded) (zip2 g.O.SetOperation.of_words l.words l.others))
