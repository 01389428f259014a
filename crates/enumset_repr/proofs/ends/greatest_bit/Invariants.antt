use Rattle.std.proofs.Common.{◌≤◌}
use Rattle.enumset_repr.specs.Words.{word}
use Rattle.enumset_repr.proofs.ZeroWords.{NoneIn}
use Rattle.enumset_repr.proofs.ends.greatest_bit.Given as goal

-- each word that a loop has passed, from the last one down, is 0
abbrev pub invariant-loop-end : goal.invariant-loop-end
invariant-loop-end g l = (l.end ≤ g.R.EnumSetTypeRepr.PREFERRED_ARRAY_LEN) × NoneIn (word (g.R.EnumSetTypeRepr.members l.repr)) l.end g.R.EnumSetTypeRepr.PREFERRED_ARRAY_LEN

abbrev pub decreases-loop-end : goal.decreases-loop-end
decreases-loop-end g l = l.end

abbrev pub invariant-loop-i : goal.invariant-loop-i
invariant-loop-i g l = NoneIn (word (g.R.EnumSetTypeRepr.members l.repr)) l.i g.R.EnumSetTypeRepr.PREFERRED_ARRAY_LEN
