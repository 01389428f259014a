use Rattle.std.proofs.Common.{sym, arith}
use Rattle.enumset_repr.specs.Laws.WordLists.{word_past_repr}
use Rattle.enumset_repr.proofs.repr.word_or_zero.Goals as goal

pub returns-else-i-PREFERRED_ARRAY_LEN : goal.returns-else-i-PREFERRED_ARRAY_LEN
returns-else-i-PREFERRED_ARRAY_LEN g c =
    sym (word_past_repr _ _ _ c.args.i (g.met.R.EnumSetTypeRepr.represents.within c.args.repr.now c.learn_is_value.ensures) g.met.R.EnumSetTypeRepr.represents.word_count (omega (arith, c.PREFERRED_ARRAY_LEN.ensures, c.if-i-PREFERRED_ARRAY_LEN.false)))
