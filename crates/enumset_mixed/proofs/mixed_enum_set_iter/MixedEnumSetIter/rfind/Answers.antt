use Rattle.enumset_sets.specs.Calls.{FindCalls, left}
use Rattle.enumset_sets.specs.Laws.Calls.{rfind_clause}
use Rattle.enumset_mixed.specs.Laws.Items.{items_last}
use Rattle.enumset_mixed.proofs.mixed_enum_set_iter.MixedEnumSetIter.rfind.Goals as goal

pub returns-clause-member : goal.returns-clause-member
unfolding left
returns-clause-member g c keeps = rfind_clause _ _ _ _ _ _ keeps (items_last g.T.EnumSetType.elements) c.learn_left.ensures.0 _ c.rfind.ensures.ran

pub returns-clause-calls : goal.returns-clause-calls
unfolding FindCalls
returns-clause-calls g c = c.rfind.ensures.ran
