use Rattle.enumset_sets.specs.Calls.{left}
use Rattle.enumset_sets.specs.Laws.Calls.{bit_last, bits_last, last_item}
use Rattle.enumset_sets.proofs.enum_set_iter.EnumSetIter.last.Goals as goal

pub returns : goal.returns
unfolding left
returns g c =
    bit_last _ _ _ (last_item _ _ (bits_last g.T.EnumSetType.elements.bit) _ _ _ c.next_back.ensures.steps c.learn_left.ensures.ascends)
