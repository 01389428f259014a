use Rattle.std.proofs.Common.{sym, ap, ◌∙◌}
use Rattle.enumset_repr.specs.Words.{bits_of}
use Rattle.enumset_sets.specs.Elements.{valid_bits}
use Rattle.enumset.proofs.set_json.words.from_words.Goals as goal
use Rattle.enumset.specs.Json.{accepted, and_then}

pub returns : goal.returns
returns g c =
    let (ws, is, cut, whole) = c.in_ok-read_words.ensures.read in
    c.accepted.ensures (bits_of ws) cut whole ∙ ap (λ r. and_then r (λ ns. accepted (valid_bits g.T.EnumSetType.elements) c.args.unknown (bits_of ns))) (sym is)
