use Rattle.std.proofs.Common.{◌≡◌, ◌≤◌, ◌+◌, ◌*◌, ◌/◌, length, take}
use Rattle.enumset_array.proofs.RowWords.{bits_in}
use Rattle.enumset_array.proofs.lanes.ones_of.Given as goal

-- `ones` is the number of the bits of the words so far
abbrev pub invariant-loop-a : goal.invariant-loop-a
invariant-loop-a l = record {
  counted : l.ones ≡ bits_in (take (4 * l.a-index) l.words);
  small : l.ones ≤ 64 * (4 * l.a-index);
}

abbrev pub invariant-loop-word : goal.invariant-loop-word
invariant-loop-word l = record {
  counted : l.ones ≡ bits_in (take (length l.words / 4 * 4 + l.word-index) l.words);
  small : l.ones ≤ 64 * (length l.words / 4 * 4 + l.word-index);
}
