use Rattle.std.proofs.Common.{sym, ap, ◌∙◌}
use Rattle.enumset_repr.specs.Words.{bits_of}
use Rattle.enumset.proofs.set_json.mixed.mixed_from_words.Goals as goal
use Rattle.enumset.specs.Json.{and_then, kept_below}

pub returns : goal.returns
returns g c =
    let (ws, is, cut, whole) = c.in_ok-read_words.ensures.read in
    c.kept_below.ensures (bits_of ws) cut whole ∙ ap (λ r. and_then r (λ ns. kept_below g.T.Repr.EnumSetTypeRepr.WIDTH c.args.past (bits_of ns))) (sym is)
