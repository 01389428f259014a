use Rattle.std.proofs.Common.{◌≡◌, ℕ, ◌<◌, ◌≤◌, true}
use Rattle.enumset.specs.Sets as set
use Rattle.example_weekdays.specs.Week.{bit, wait}
use Rattle.example_weekdays.proofs.schedule.nearest_day.Given as goal

-- the loop is as many days past the first as it has counted, and none of the days before is in the set
abbrev pub invariant-loop : goal.invariant-loop
invariant-loop l = record {
  far : l.counter < 7 → wait (bit l.fn.from) (bit l.day) ≡ l.counter;
  none : (q : ℕ) → set.contains l.days q ≡ true → l.counter ≤ wait (bit l.fn.from) q;
}
