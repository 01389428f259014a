use Rattle.enumset_sets.specs.Calls.{PositionCalls, left}
use Rattle.enumset_sets.specs.Laws.Calls.{bit_position}
use Rattle.enumset_sets.proofs.enum_set_iter.EnumSetIter.position.Goals as goal

pub returns-clause-element : goal.returns-clause-element
unfolding left
returns-clause-element g c keeps = bit_position _ _ _ _ _ keeps c.learn_left.ensures.ascends _ c.position.ensures.ran

pub returns-clause-calls : goal.returns-clause-calls
unfolding PositionCalls
returns-clause-calls g c = c.position.ensures.ran
