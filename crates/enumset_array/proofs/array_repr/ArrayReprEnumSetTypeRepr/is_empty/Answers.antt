use Rattle.std.proofs.Common.{ap, ◌∙◌}
use Rattle.enumset_repr.specs.BitSet.{is_empty}
use Rattle.enumset_repr.specs.Laws.Algebra.{intersection_self}
use Rattle.enumset_array.proofs.array_repr.ArrayReprEnumSetTypeRepr.is_empty.Goals as goal

pub returns-clause-empty : goal.returns-clause-empty
returns-clause-empty g c = c.yields_none.ensures.empty ∙ ap is_empty (intersection_self _)
