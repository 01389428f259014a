use Rattle.enumset_sets.specs.Calls.{AllCalls, left}
use Rattle.enumset_sets.specs.Laws.Calls.{bits_first, all_clause}
use Rattle.enumset_sets.proofs.enum_set_iter.EnumSetIter.all.Goals as goal

pub returns-clause-elements : goal.returns-clause-elements
unfolding left
returns-clause-elements g c keeps = all_clause _ _ (bits_first g.T.EnumSetType.elements.bit) _ _ _ _ keeps _ c.all.ensures.ran

pub returns-clause-calls : goal.returns-clause-calls
unfolding AllCalls
returns-clause-calls g c = c.all.ensures.ran
