use Rattle.std.proofs.Common.{rules}
use Rattle.enumset_array.specs.ArrayWords.{IsArrayRepr}
use Rattle.enumset_array.proofs.ReplacedWord.{remove_bit}
use Rattle.enumset_array.proofs.array_repr.ArrayReprEnumSetTypeRepr.remove_bit.Goals as goal

pub returns : goal.returns
returns g c =
    let is_repr : IsArrayRepr g.row.N c.self.inside.0 = record { long = search rules; fit = search rules; past = c.self.invariant } in
    let made = remove_bit _ _ _ is_repr c.requires in
    record { members = rw (← c.self.view_is) made.1; value = made.0 }
