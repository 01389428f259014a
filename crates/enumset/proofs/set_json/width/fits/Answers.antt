use Rattle.std.proofs.Common.{◌^◌, sym, ◌∙◌, arith, le-leb, lt-ltb, eqb-true, eq-eqb, ltb-true, pow_pos}
use Rattle.std.proofs.Math.Nat.{div-eq_of_lt, div-lt_iff_lt-mul}
use Rattle.std.proofs.Math.Pow.{pow_mono}
use Rattle.std.proofs.lemmas.Bool.Decides.{same_from_decides}
use Rattle.enumset.proofs.set_json.width.fits.Goals as goal

pub returns-then-width-ge-BITS : goal.returns-then-width-ge-BITS
returns-then-width-ge-BITS c =
    le-leb 64 c.args.width c.if-width-ge-BITS.true ∙ sym (lt-ltb c.args.number _ (omega (arith, c.ranges.number.fits, pow_mono {i = 64} {j = c.args.width} c.if-width-ge-BITS.true)))

pub returns-else-width-ge-BITS : goal.returns-else-width-ge-BITS
returns-else-width-ge-BITS c =
    let below = (div-lt_iff_lt-mul {k = 2 ^ c.args.width} {x = c.args.number} {y = 1} (pow_pos c.args.width)).0 in
    same_from_decides _ _ (λ none. omega (arith, below (omega (arith, eqb-true _ _ none))), λ less. eq-eqb _ _ (div-eq_of_lt less)) (ltb-true _ _, lt-ltb _ _)
