use Rattle.std.proofs.Common.{◌≡◌, ◌*◌, take, ◌==◌}
use Rattle.enumset_array.proofs.WordLanes.{PartMade, none_in}
use Rattle.enumset_array.proofs.ChangedWords.{changes}
use Rattle.enumset_array.proofs.lanes.apply_and_compare.Given as goal

-- the words so far are replaced, the others are not, and the lanes are 0 exactly if no word has changed
abbrev pub invariant-loop-k : goal.invariant-loop-k
invariant-loop-k g l = record {
  made : PartMade g.O.SetOperation.of_words l.fn.words l.others (4 * l.k) l.words;
  none : none_in l.changed ≡ none_in (take (4 * l.k) (changes g.O.SetOperation.of_words l.fn.words l.others));
}

abbrev pub invariant-loop-i : goal.invariant-loop-i
invariant-loop-i g l = record {
  made : PartMade g.O.SetOperation.of_words l.fn.words l.others l.i l.words;
  none : (l.any == 0) ≡ none_in (take l.i (changes g.O.SetOperation.of_words l.fn.words l.others));
}
