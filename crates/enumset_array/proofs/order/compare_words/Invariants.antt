use Rattle.std.proofs.Common.{◌≡◌, ◌≤◌, length, drop}
use Rattle.enumset_array.proofs.order.compare_words.Given as goal

-- the lists are equal from place `end` on
abbrev pub invariant-loop-end : goal.invariant-loop-end
invariant-loop-end l = (l.end ≤ length l.words) × (drop l.end l.words ≡ drop l.end l.others)

abbrev pub decreases-loop-end : goal.decreases-loop-end
decreases-loop-end l = l.end
