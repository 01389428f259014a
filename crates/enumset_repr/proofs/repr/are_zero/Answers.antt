use Rattle.std.proofs.Common.{arith}
use Rattle.enumset_repr.specs.Words.{word}
use Rattle.enumset_repr.proofs.ZeroWords.{one_more}
use Rattle.enumset_repr.proofs.repr.are_zero.Goals as goal

pub loop-i-preserved : goal.loop-i-preserved
loop-i-preserved g c = (
  omega (arith, c.loop-i.invariant.0),
  omega arith,
  one_more (word (g.R.EnumSetTypeRepr.members c.args.repr.now)) c.args.from c.loop-i.i c.loop-i.any c.word-any.result c.loop-i.invariant.0 c.word-any.ensures c.loop-i.invariant.2,
)
