use Rattle.enumset_sets.specs.Calls.{AnyCalls, left}
use Rattle.enumset_sets.specs.Laws.Calls.{any_clause}
use Rattle.enumset_mixed.specs.Laws.Items.{items_first}
use Rattle.enumset_mixed.proofs.mixed_enum_set_iter.MixedEnumSetIter.any.Goals as goal

pub returns-clause-members : goal.returns-clause-members
unfolding left
returns-clause-members g c keeps = any_clause _ _ (items_first g.T.EnumSetType.elements) _ _ _ _ keeps _ c.any.ensures.ran

pub returns-clause-calls : goal.returns-clause-calls
unfolding AnyCalls
returns-clause-calls g c = c.any.ensures.ran
