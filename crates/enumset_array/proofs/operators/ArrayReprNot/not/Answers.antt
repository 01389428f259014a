use Rattle.std.proofs.Common.{rules}
use Rattle.enumset_array.specs.ArrayWords.{IsArrayRepr}
use Rattle.enumset_array.proofs.CombinedWords.{inverted_set}
use Rattle.enumset_array.proofs.operators.ArrayReprNot.not.Goals as goal

pub returns : goal.returns
returns g c =
    let first : IsArrayRepr g.row.N c.self.inside.0 = record { long = search rules; fit = search rules; past = c.self.invariant } in
    rw (← c.self.view_is, c.invert.ensures) (inverted_set _ _ first)
