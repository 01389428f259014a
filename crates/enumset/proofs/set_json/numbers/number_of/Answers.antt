use Rattle.std.proofs.Common.{◌<◌, ◌^◌, refl, sym, subst, ◌∙◌, true≢false, ltb-true, lt-ltb}
use Rattle.enumset_repr.specs.Laws.Numbers.{number_within}
use Rattle.enumset_repr.specs.Laws.Widths.{fits_number, is_subset_wider}
use Rattle.enumset.proofs.set_json.numbers.number_of.Goals as goal
use Rattle.enumset.specs.Json.{width_of}

pub returns-in-Some-clause-fits : goal.returns-in-Some-clause-fits
returns-in-Some-clause-fits g c =
    let small : c.in-Some.number < 2 ^ c.bits-bits.result = ltb-true _ _ (sym c.fits.ensures ∙ c.if-fits.true) in
    (λ _. fits_number _ (width_of c.args.width) (subst (λ n. n < 2 ^ width_of c.args.width) c.in-Some.ensures.value (subst (λ k. c.in-Some.number < 2 ^ k) c.bits-bits.ensures.bits small)), λ _. refl)

pub returns-in_default-clause-fits : goal.returns-in_default-clause-fits
returns-in_default-clause-fits g c = (
  λ ok. absurd (true≢false (sym ok)),
  λ within.
      let small = subst (λ n. n < 2 ^ width_of c.args.width) (sym c.in-Some.ensures.value) (number_within _ (width_of c.args.width) within) in
      absurd (true≢false (sym (lt-ltb _ _ (subst (λ k. c.in-Some.number < 2 ^ k) (sym c.bits-bits.ensures.bits) small)) ∙ sym c.fits.ensures ∙ c.if-fits.false)),
)

pub returns-in_default-2-clause-fits : goal.returns-in_default-2-clause-fits
returns-in_default-2-clause-fits g c = (
  λ ok. absurd (true≢false (sym ok)),
  λ within. absurd (true≢false (sym (c.in_default.ensures.fits.1 (is_subset_wider _ (width_of c.args.width) 64 c.bits-bits.ensures.narrow within)))),
)
