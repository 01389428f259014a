use Rattle.enumset_sets.specs.Calls.{PositionCalls, left}
use Rattle.enumset_sets.specs.Laws.Calls.{position_clause}
use Rattle.enumset_mixed.specs.Laws.Items.{items_first}
use Rattle.enumset_mixed.proofs.mixed_enum_set_iter.MixedEnumSetIter.position.Goals as goal

pub returns-clause-member : goal.returns-clause-member
unfolding left
returns-clause-member g c keeps = position_clause _ _ (items_first g.T.EnumSetType.elements) _ _ _ _ keeps c.learn_left.ensures.0 _ c.position.ensures.ran

pub returns-clause-calls : goal.returns-clause-calls
unfolding PositionCalls
returns-clause-calls g c = c.position.ensures.ran
