use Rattle.std.proofs.Common.{sym, ◌∙◌}
use Rattle.enumset_array.specs.Laws.ArrayWords.{used_fit}
use Rattle.enumset_array.specs.Laws.Values.{len_bits_of}
use Rattle.enumset_array.proofs.array_repr.ArrayReprEnumSetTypeRepr.count_ones.Goals as goal

pub returns : goal.returns
returns g c = c.ones_of.ensures ∙ rw c.words.ensures.words (sym (len_bits_of _ (used_fit _ _ c.words.ensures.value)))
