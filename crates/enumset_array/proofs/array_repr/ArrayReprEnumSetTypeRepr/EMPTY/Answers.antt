use Rattle.enumset_array.specs.Laws.ArrayWords.{repr_of_none}
use Rattle.enumset_array.proofs.array_repr.ArrayReprEnumSetTypeRepr.EMPTY.Goals as goal

pub invariant_of-result : goal.invariant_of-result
invariant_of-result g c = (repr_of_none g.row.N).past
