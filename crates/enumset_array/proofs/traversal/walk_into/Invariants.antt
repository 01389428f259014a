use Rattle.std.proofs.Common.{◌≡◌, ◌+◌, Contains, length, None, take}
use Rattle.enumset_repr.specs.BitSet.{difference, from_list}
use Rattle.enumset_repr.specs.Words.{bits_of}
use Rattle.enumset_array.proofs.traversal.walk_into.Given as goal
use Rattle.enumset_array.specs.Cursors.{span, Covers}
use Rattle.enumset_array.specs.Items.{items_of}
use Rattle.enumset_array.specs.Walks.{answers, without_answers, items_among}

-- what the function ensures, for the ends taken so far, where each word between the cursors counts as one ask to come
abbrev pub invariant-loop-i : goal.invariant-loop-i
invariant-loop-i g l = record {
  items : take l.i l.answers ≡ answers (items_of (g.R.Row.words l.initial.row)) (take l.i l.ends);
  rest : items_of (g.R.Row.words l.row) ≡ without_answers (items_of (g.R.Row.words l.initial.row)) (take l.i l.ends);
  set : bits_of (g.R.Row.words l.row) ≡ difference (bits_of (g.R.Row.words l.initial.row)) (from_list (items_among (take l.i l.answers)));
  asks : g.R.Row.asks l.row + span l.cursors ≡ g.R.Row.asks l.initial.row + length (items_among (take l.i l.answers)) + length (g.R.Row.words l.initial.row);
  met : Contains (take l.i l.answers) None → span l.cursors ≡ 0;
  covers : Covers (g.R.Row.words l.row) l.cursors;
  same : length (g.R.Row.words l.row) ≡ length (g.R.Row.words l.initial.row);
}
