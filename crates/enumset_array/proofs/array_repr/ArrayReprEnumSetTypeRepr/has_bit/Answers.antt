use Rattle.enumset_array.proofs.ReplacedWord.{test_bit}
use Rattle.enumset_array.proofs.array_repr.ArrayReprEnumSetTypeRepr.has_bit.Goals as goal

pub returns : goal.returns
returns g c = rw c.words.ensures.words (test_bit _ _ _ c.words.ensures.value)
