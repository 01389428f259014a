use Rattle.std.proofs.Common.{◌-◌, ◌≤◌}
use Rattle.enumset_repr.specs.Words.{word}
use Rattle.enumset_repr.proofs.ZeroWords.{NoneIn}
use Rattle.enumset_repr.proofs.ends.least_bit_from_word.Given as goal

-- each word that a loop has passed is 0
abbrev pub invariant-loop-left : goal.invariant-loop-left
invariant-loop-left g l = (l.left ≤ l.len - l.from) × NoneIn (word (g.R.EnumSetTypeRepr.members l.repr)) l.from (l.len - l.left)

abbrev pub decreases-loop-left : goal.decreases-loop-left
decreases-loop-left g l = l.left

abbrev pub invariant-loop-i : goal.invariant-loop-i
invariant-loop-i g l = NoneIn (word (g.R.EnumSetTypeRepr.members l.repr)) l.from l.i
