use Rattle.std.proofs.Common.{◌+◌, ◌*◌}
use Rattle.enumset_repr.specs.Words.{word}
use Rattle.enumset_repr.proofs.ZeroWords.{NoneIn}
use Rattle.enumset_repr.proofs.repr.has_no_word_from.Given as goal

-- the words of the first k blocks are 0
abbrev pub invariant-loop-k : goal.invariant-loop-k
invariant-loop-k g l = NoneIn (word (g.R.EnumSetTypeRepr.members l.repr)) l.from (l.from + 16 * l.k)
