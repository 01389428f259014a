use Rattle.std.proofs.Common.{refl, sym, ap, ◌∙◌, arith, true≢false}
use Rattle.enumset_repr.specs.Laws.Widths.{low_within}
use Rattle.enumset_repr.specs.Laws.WordLists.{word_bits_of, all_kept}
use Rattle.enumset_repr.specs.Words.{word}
use Rattle.enumset_repr.proofs.repr.EnumSetTypeRepr.try_from_u64_slice.Goals as goal

pub returns-then-word_or_zero-v-clause-fits : goal.returns-then-word_or_zero-v-clause-fits
returns-then-word_or_zero-v-clause-fits g c = (
  λ some. absurd (true≢false (sym some)),
  λ within. absurd (c.if-word_or_zero-v.true (
      c.word_or_zero.ensures ∙ ap (λ s. word s c.loop-i.i) (c.from_u64_slice-repr.ensures ∙ low_within _ _ within) ∙ word_bits_of c.args.v.now c.loop-i.i (λ k. (c.type_inv.v k).fits))),
)

pub returns-clause-fits : goal.returns-clause-fits
returns-clause-fits g c = (
  λ _. all_kept c.args.v.now g.Self.EnumSetTypeRepr.WIDTH (λ k. (c.type_inv.v k).fits) (λ w under. ap (λ s. word s w) (sym c.from_u64_slice-repr.ensures) ∙ c.loop-i.invariant w (omega (arith, under, c.loop-i-test.false))),
  λ _. refl,
)

pub returns-clause-value : goal.returns-clause-value
returns-clause-value g c = c.from_u64_slice-repr.ensures
    ∙ low_within _ _ (all_kept c.args.v.now g.Self.EnumSetTypeRepr.WIDTH (λ k. (c.type_inv.v k).fits) (λ w under. ap (λ s. word s w) (sym c.from_u64_slice-repr.ensures) ∙ c.loop-i.invariant w (omega (arith, under, c.loop-i-test.false))))
