use Rattle.std.proofs.Common.{arith}
use Rattle.enumset_repr.proofs.EndWords.{none_from, greatest_at, greatest_nowhere}
use Rattle.enumset_repr.proofs.ends.greatest_bit.Goals as goal

pub returns-then-word-ne0 : goal.returns-then-word-ne0
returns-then-word-ne0 g c =
    greatest_at _ _ _ (λ q past. none_from _ _ _ c.learn_members.ensures.within g.met.R.EnumSetTypeRepr.represents.word_count c.loop-i.i _ c.loop-i.invariant (omega arith) q (omega (arith, past, c.loop-i-test.true))) c.word-word.ensures c.if-word-ne0.true c.word-word.type_inv

pub returns : goal.returns
returns g c = greatest_nowhere _ _ _ c.learn_members.ensures.within g.met.R.EnumSetTypeRepr.represents.word_count (λ w low high. c.loop-i.invariant w (omega (arith, c.loop-i-test.false)) high)
