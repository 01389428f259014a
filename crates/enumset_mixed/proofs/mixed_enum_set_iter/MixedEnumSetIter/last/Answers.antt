use Rattle.enumset_sets.specs.Calls.{left}
use Rattle.enumset_sets.specs.Laws.Calls.{last_item}
use Rattle.enumset_mixed.specs.Laws.Items.{item_option, items_last}
use Rattle.enumset_mixed.proofs.mixed_enum_set_iter.MixedEnumSetIter.last.Goals as goal

pub returns : goal.returns
unfolding left
returns g c =
    item_option _ _ _ (last_item _ _ (items_last g.T.EnumSetType.elements) _ _ _ c.next_back.ensures.steps c.learn_left.ensures.0)
