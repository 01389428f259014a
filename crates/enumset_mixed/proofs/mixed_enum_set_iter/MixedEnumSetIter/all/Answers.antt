use Rattle.enumset_sets.specs.Calls.{AllCalls, left}
use Rattle.enumset_sets.specs.Laws.Calls.{all_clause}
use Rattle.enumset_mixed.specs.Laws.Items.{items_first}
use Rattle.enumset_mixed.proofs.mixed_enum_set_iter.MixedEnumSetIter.all.Goals as goal

pub returns-clause-members : goal.returns-clause-members
unfolding left
returns-clause-members g c keeps = all_clause _ _ (items_first g.T.EnumSetType.elements) _ _ _ _ keeps _ c.all.ensures.ran

pub returns-clause-calls : goal.returns-clause-calls
unfolding AllCalls
returns-clause-calls g c = c.all.ensures.ran
