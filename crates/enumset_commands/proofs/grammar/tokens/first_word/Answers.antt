use Rattle.std.proofs.Common.{sym, ◌∙◌, arith, rules}
use Rattle.std.proofs.lemmas.Bool.Decides.{nat_tests}
use Rattle.enumset_commands.proofs.Tokens.{one_digit_more, number_at_end, other_byte, too_large}
use Rattle.enumset_commands.proofs.grammar.tokens.first_word.Goals as goal

pub loop-place-preserved : goal.loop-place-preserved
loop-place-preserved c = record {
  digits =
      one_digit_more c.args.text.now c.loop-place.place c.loop-place.number c.in_ok-number.number (omega arith)
      (sym c.is_ascii_digit.ensures.value ∙ search rules)
      (omega (arith, c.in_ok-number.ensures.1))
      c.loop-place.invariant.digits;
  fits = omega (arith, c.in_ok-number.ensures.0, c.in_ok-number.ensures.1);
}

pub returns-in_err-number-clause-number : goal.returns-in_err-number-clause-number
returns-in_err-number-clause-number c =
    rw c.from_residual.ensures
    (too_large c.args.text.now c.loop-place.place c.loop-place.number (omega arith)
    (sym c.is_ascii_digit.ensures.value ∙ search rules)
    (omega (arith, c.in_err-number.ensures))
    c.loop-place.invariant.digits)

pub returns-then-not-is_ascii_digit-clause-number : goal.returns-then-not-is_ascii_digit-clause-number
returns-then-not-is_ascii_digit-clause-number c =
    other_byte c.args.text.now c.loop-place.place c.loop-place.number (omega arith) (search rules)
    (sym c.is_ascii_digit.ensures.value ∙ search rules)
    c.loop-place.invariant.digits

pub returns-clause-number : goal.returns-clause-number
returns-clause-number c =
    number_at_end c.args.text.now c.loop-place.place c.loop-place.number (grind (arith, nat_tests)) (omega arith) c.loop-place.invariant.fits c.loop-place.invariant.digits
