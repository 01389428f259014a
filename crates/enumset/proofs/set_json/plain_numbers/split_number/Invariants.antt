use Rattle.std.proofs.Common.{◌≡◌, ◌≤◌, ◌-◌, ◌%◌}
use Rattle.enumset.proofs.NumberScans.{Scanned}
use Rattle.enumset.proofs.set_json.plain_numbers.split_number.Given as goal

-- `number` has the digits so far
abbrev pub invariant-loop-at : goal.invariant-loop-at
invariant-loop-at l = (l.at ≤ l.count) × Scanned l.bytes l.rest l.at l.number × (l.at % 2 ≡ 0)

abbrev pub decreases-loop-at : goal.decreases-loop-at
decreases-loop-at l = l.count - l.at
