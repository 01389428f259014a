use Rattle.enumset_sets.specs.Calls.{left}
use Rattle.enumset_sets.specs.Laws.Calls.{bits_collected}
use Rattle.enumset_sets.proofs.enum_set_iter.EnumSetIter.collect.Goals as goal

pub returns-clause-elements : goal.returns-clause-elements
unfolding left
returns-clause-elements g c = bits_collected _ _ _ _ _ c.collect.ensures.ran
