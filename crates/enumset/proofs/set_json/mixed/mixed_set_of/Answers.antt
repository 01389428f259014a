use Rattle.std.proofs.Common.{◌≡◌, ◌^◌, Ok, nat_lt, true, ap, subst, sym, ◌∙◌, ltb-true}
use Rattle.enumset_repr.specs.Laws.Numbers.{bits_within}
use Rattle.enumset_repr.specs.Laws.Widths.{low_within}
use Rattle.enumset.proofs.set_json.mixed.mixed_set_of.Goals as goal

pub returns : goal.returns
returns g c =
    let width = g.T.Repr.EnumSetTypeRepr.WIDTH in
    let small : nat_lt c.args.number (2 ^ width) ≡ true = subst (λ w. nat_lt c.args.number (2 ^ w) ≡ true) c.WIDTH.ensures (sym c.fits.ensures ∙ c.if-not-fits.false) in
    rw small (ap Ok (c.from_repr.ensures ∙ c.from_u64.ensures ∙ low_within _ _ (bits_within c.args.number width (ltb-true _ _ small))))
