use Rattle.std.proofs.Common.{sym, ◌∙◌}
use Rattle.enumset_sets.specs.Calls.{left}
use Rattle.enumset_sets.specs.Laws.Calls.{len_left}
use Rattle.enumset_mixed.proofs.mixed_enum_set_iter.MixedEnumSetIter.count.Goals as goal

pub returns : goal.returns
unfolding left
returns g c = c.len.ensures.value ∙ sym (len_left _ c.learn_left.ensures.0)
