use Rattle.enumset_sets.specs.Calls.{left}
use Rattle.enumset_mixed.specs.Laws.Items.{items_collected}
use Rattle.enumset_mixed.proofs.mixed_enum_set_iter.MixedEnumSetIter.collect.Goals as goal

pub returns-clause-members : goal.returns-clause-members
unfolding left
returns-clause-members g c = items_collected _ _ _ _ _ c.collect.ensures.ran
