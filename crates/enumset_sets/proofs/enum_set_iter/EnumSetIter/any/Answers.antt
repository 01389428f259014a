use Rattle.enumset_sets.specs.Calls.{AnyCalls, left}
use Rattle.enumset_sets.specs.Laws.Calls.{bits_first, any_clause}
use Rattle.enumset_sets.proofs.enum_set_iter.EnumSetIter.any.Goals as goal

pub returns-clause-elements : goal.returns-clause-elements
unfolding left
returns-clause-elements g c keeps = any_clause _ _ (bits_first g.T.EnumSetType.elements.bit) _ _ _ _ keeps _ c.any.ensures.ran

pub returns-clause-calls : goal.returns-clause-calls
unfolding AnyCalls
returns-clause-calls g c = c.any.ensures.ran
