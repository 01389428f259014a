use Rattle.std.proofs.Common.{◌++◌, [], decimal, ap, subst, sym, ◌∙◌, append-nil, arith, IsAscii}
use Rattle.std.proofs.lemmas.Fmt.{IsAscii-decimal}
use Rattle.serde_json.specs.Read.{read}
use Rattle.enumset.proofs.JsonNumbers.{number_alone}
use Rattle.enumset.proofs.set_json.plain_numbers.write_plain_number.Goals as goal

pub ascii_text-requires : goal.ascii_text-requires
ascii_text-requires c = subst IsAscii (sym (c.in_ok-push_digits.ensures ∙ ap (λ l. l ++ decimal c.args.number) c.in_ok-bytes.ensures.items)) (IsAscii-decimal c.args.number (omega (arith, c.ranges.number.fits)))

pub returns-clause-reads : goal.returns-clause-reads
returns-clause-reads c =
    ap read (c.ascii_text.ensures ∙ c.in_ok-push_digits.ensures ∙ ap (λ l. l ++ decimal c.args.number) c.in_ok-bytes.ensures.items ∙ sym (append-nil (decimal c.args.number)))
    ∙ number_alone c.args.number [] [] (omega (arith, c.ranges.number.fits)) tt tt
