use Rattle.std.proofs.Common.{ap, ◌∙◌, arith}
use Rattle.std.proofs.lemmas.Grind.{common_steps}
use Rattle.enumset.specs.Sets.{bits}
use Rattle.enumset_repr.specs.Laws.Numbers.{bits_number, number_bits}
use Rattle.example_headers.proofs.FrameLaws.{split}
use Rattle.example_headers.proofs.frame.read_frame.Goals as goal

pub returns-clause-written : goal.returns-clause-written
returns-clause-written c =
    let parts = split c.args.bytes.now c.in-len2-up.len_at_least in grind (arith, common_steps, number_bits)

pub returns-clause-back : goal.returns-clause-back
returns-clause-back c = λ flags body same.
    let parts = split c.args.bytes.now c.in-len2-up.len_at_least in let back = bits_number flags in (c.from_repr.ensures ∙ ap bits (cc) ∙ back, cc)
