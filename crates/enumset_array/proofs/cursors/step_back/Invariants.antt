use Rattle.std.proofs.Common.{◌-◌, ◌≡◌, ◌+◌, ◌≤◌}
use Rattle.enumset_array.specs.Cursors.{Covers}
use Rattle.enumset_array.proofs.cursors.step_back.Given as goal

-- each word asked so far was 0, and each ask moved the back cursor down
abbrev pub invariant-loop-back : goal.invariant-loop-back
invariant-loop-back g l = record {
  kept : l.cursors-inside.front ≡ l.front;
  same : g.R.Row.words l.row ≡ g.R.Row.words l.initial.row;
  ordered : l.front ≤ l.back;
  down_to : l.back ≤ l.initial.back;
  covers : Covers (g.R.Row.words l.row) (record { front = l.front; back = l.back });
  asks : g.R.Row.asks l.row + (l.back - l.front) ≡ g.R.Row.asks l.initial.row + (l.initial.back - l.initial.front);
}

abbrev pub decreases-loop-back : goal.decreases-loop-back
decreases-loop-back g l = l.back - l.front
