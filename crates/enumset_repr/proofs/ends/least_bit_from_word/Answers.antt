use Rattle.std.proofs.Common.{arith}
use Rattle.enumset_repr.proofs.EndWords.{no_member, least_at, least_nowhere}
use Rattle.enumset_repr.proofs.ends.least_bit_from_word.Goals as goal

pub returns-then-word-ne0 : goal.returns-then-word-ne0
returns-then-word-ne0 g c =
    least_at _ _ _ c.loop-i.i 0 _ (omega arith) (omega arith) (λ q start end. no_member _ _ c.loop-i.i c.loop-i.invariant q start (omega (arith, end))) (omega (arith, c.word-word.ensures)) c.if-word-ne0.true c.word-word.type_inv

pub returns : goal.returns
returns g c = least_nowhere _ _ _ c.learn_members.ensures.within g.met.R.EnumSetTypeRepr.represents.word_count _ c.loop-i.i c.loop-i.invariant (omega (arith, c.loop-i-test.false))
