use Rattle.enumset_sets.specs.Calls.{FindCalls, left}
use Rattle.enumset_sets.specs.Laws.Calls.{bit_rfind}
use Rattle.enumset_sets.proofs.enum_set_iter.EnumSetIter.rfind.Goals as goal

pub returns-clause-element : goal.returns-clause-element
unfolding left
returns-clause-element g c keeps = bit_rfind _ _ _ _ _ keeps c.learn_left.ensures.ascends _ c.rfind.ensures.ran

pub returns-clause-calls : goal.returns-clause-calls
unfolding FindCalls
returns-clause-calls g c = c.rfind.ensures.ran
