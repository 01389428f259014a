use Rattle.std.proofs.Common.{sym}
use Rattle.enumset_array.specs.Laws.ArrayWords.{word_is}
use Rattle.enumset_array.proofs.array_repr.ArrayReprEnumSetTypeRepr.word.Goals as goal

pub returns : goal.returns
returns g c = rw c.words.ensures.words (sym (word_is _ _ _ c.words.ensures.value))
