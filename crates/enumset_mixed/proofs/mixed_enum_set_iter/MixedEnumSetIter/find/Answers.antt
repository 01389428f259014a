use Rattle.enumset_sets.specs.Calls.{FindCalls, left}
use Rattle.enumset_sets.specs.Laws.Calls.{find_clause}
use Rattle.enumset_mixed.specs.Laws.Items.{items_first}
use Rattle.enumset_mixed.proofs.mixed_enum_set_iter.MixedEnumSetIter.find.Goals as goal

pub returns-clause-member : goal.returns-clause-member
unfolding left
returns-clause-member g c keeps = find_clause _ _ _ _ _ _ keeps (items_first g.T.EnumSetType.elements) c.learn_left.ensures.0 _ c.find.ensures.ran

pub returns-clause-calls : goal.returns-clause-calls
unfolding FindCalls
returns-clause-calls g c = c.find.ensures.ran
