use Rattle.std.proofs.Common.{rules}
use Rattle.enumset_array.specs.ArrayWords.{IsArrayRepr}
use Rattle.enumset_array.proofs.ReplacedWord.{put_word}
use Rattle.enumset_array.proofs.array_repr.ArrayReprEnumSetTypeRepr.put_word.Goals as goal

pub returns : goal.returns
returns g c =
    let is_repr : IsArrayRepr g.row.N c.self.inside.0 = record { long = search rules; fit = search rules; past = c.self.invariant } in
    rw (← c.self.view_is) (put_word _ _ _ _ is_repr c.requires c.ranges.w.fits)
