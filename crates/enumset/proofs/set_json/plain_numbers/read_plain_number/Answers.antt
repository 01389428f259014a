use Rattle.std.proofs.Common.{◌++◌, ◌∙◌, ap, sym, subst}
use Rattle.serde_json.specs.Read.{read}
use Rattle.enumset.proofs.JsonNumbers.{number_alone}
use Rattle.enumset.proofs.JsonScans.{some_if}
use Rattle.enumset.proofs.PlainTexts.{plain_number, number_here}
use Rattle.enumset.proofs.PlainWords.{kept_if}
use Rattle.enumset.proofs.set_json.plain_numbers.read_plain_number.Goals as goal
use Rattle.enumset.specs.JsonPlain.{AreSpaces}

pub returns-in_err-number-clause-plain : goal.returns-in_err-number-clause-plain
returns-in_err-number-clause-plain c = λ plain.
    let (n, rest, fits, next, none, spaced) = plain_number c.args.text.now plain in
    let digits = number_here n c.args.text.now rest c.split_spaces.result.0.now c.split_spaces.result.1.now fits next c.split_spaces.ensures.spaces c.split_spaces.ensures.most (sym c.as_bytes.ensures.value ∙ c.split_spaces.ensures.whole) in
    absurd (c.in_err-number.ensures.found n rest fits none digits)

pub returns : goal.returns
returns c = record {
  value = kept_if _ c.then_some.result _ _ c.then_some.ensures (λ all. ap read (sym c.as_bytes.ensures.value ∙ c.split_spaces.ensures.whole ∙ ap (λ l. c.split_spaces.result.0.now ++ l) c.in_ok-number.ensures.whole)
      ∙ number_alone c.in_ok-number.number c.split_spaces.result.0.now c.in_ok-number.end.now c.in_ok-number.ensures.below c.split_spaces.ensures.spaces (c.are_spaces.ensures.0 all));
  plain = λ plain.
      let (n, rest, fits, next, none, spaced) = plain_number c.args.text.now plain in
      let digits = number_here n c.args.text.now rest c.split_spaces.result.0.now c.split_spaces.result.1.now fits next c.split_spaces.ensures.spaces c.split_spaces.ensures.most (sym c.as_bytes.ensures.value ∙ c.split_spaces.ensures.whole) in
      let found = c.in_ok-number.ensures.found n rest fits none digits in
      some_if c.then_some.result _ _ c.then_some.ensures (c.are_spaces.ensures.1 (subst AreSpaces (sym found.1) spaced));
}
