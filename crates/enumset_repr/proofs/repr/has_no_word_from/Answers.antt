use Rattle.std.proofs.Common.{sym, ◌∙◌, arith, true≢false}
use Rattle.std.proofs.lemmas.Bool.{false_from_ne_true}
use Rattle.std.specs.Cmp.{both_ways}
use Rattle.enumset_repr.specs.BitSet.{BitSet}
use Rattle.enumset_repr.specs.Laws.WordLists.{word_past, within_words, word_past_repr}
use Rattle.enumset_repr.proofs.repr.has_no_word_from.Goals as goal

pub returns-then-len-from : goal.returns-then-len-from
returns-then-len-from g c =
    sym (within_words (g.R.EnumSetTypeRepr.members c.args.repr.now) c.args.from (λ w past.
    word_past_repr _ _ _ w (g.met.R.EnumSetTypeRepr.represents.within c.args.repr.now c.learn_is_value.ensures) g.met.R.EnumSetTypeRepr.represents.word_count (omega (arith, past, c.if-len-from.true, c.PREFERRED_ARRAY_LEN-len.ensures))))

pub returns-then-word-ne0 : goal.returns-then-word-ne0
returns-then-word-ne0 g c =
    sym (false_from_ne_true _ (λ within. c.if-word-ne0.true (c.word.ensures ∙ word_past _ _ c.args.from within (omega arith))))

pub returns-then-not-are_zero : goal.returns-then-not-are_zero
returns-then-not-are_zero g c =
    sym (false_from_ne_true _ (λ within. true≢false (
    sym (c.are_zero.ensures.1 (λ w from under. word_past _ _ w within (omega (arith, from)))) ∙ c.if-not-are_zero.true)))

pub returns : goal.returns
returns g c =
    let s : BitSet = g.R.EnumSetTypeRepr.members c.args.repr.now in
    both_ways _ _
    (λ zero. within_words s c.args.from (λ w past.
    let before = c.loop-k.invariant w past in
    let rest = c.are_zero-2.ensures.0 zero w in
    let beyond = word_past_repr _ _ _ w (g.met.R.EnumSetTypeRepr.represents.within c.args.repr.now c.learn_is_value.ensures) g.met.R.EnumSetTypeRepr.represents.word_count in
    grind (arith, c.loop-k-test.false, c.PREFERRED_ARRAY_LEN-len.ensures)))
    (λ within. c.are_zero-2.ensures.1 (λ w from under. word_past s _ w within (omega (arith, from))))
