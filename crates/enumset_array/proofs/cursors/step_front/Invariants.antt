use Rattle.std.proofs.Common.{◌-◌, ◌≡◌, ◌+◌, ◌≤◌}
use Rattle.enumset_array.specs.Cursors.{Covers}
use Rattle.enumset_array.proofs.cursors.step_front.Given as goal

-- each word asked so far was 0, and each ask advanced the front cursor
abbrev pub invariant-loop-front : goal.invariant-loop-front
invariant-loop-front g l = record {
  kept : l.cursors-inside.back ≡ l.back;
  same : g.R.Row.words l.row ≡ g.R.Row.words l.initial.row;
  ordered : l.front ≤ l.back;
  from : l.initial.front ≤ l.front;
  covers : Covers (g.R.Row.words l.row) (record { front = l.front; back = l.back });
  asks : g.R.Row.asks l.row + (l.back - l.front) ≡ g.R.Row.asks l.initial.row + (l.initial.back - l.initial.front);
}

abbrev pub decreases-loop-front : goal.decreases-loop-front
decreases-loop-front g l = l.back - l.front
