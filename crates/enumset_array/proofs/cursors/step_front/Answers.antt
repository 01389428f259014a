use Rattle.std.proofs.Common.{arith}
use Rattle.enumset_array.proofs.TakenOut.{first_taken, none_left}
use Rattle.enumset_array.proofs.cursors.step_front.Goals as goal

pub overflow_add-result : goal.overflow_add-result
overflow_add-result g c =
    let taken = first_taken _ _ _ _ _ c.in-Some.ensures.are_words.fit c.in-Some.ensures.others c.loop-front.invariant.same c.in-Some.ensures.taken c.loop-front.invariant.covers.before in
    omega (arith, taken.0, c.loop-front.invariant.covers.within, c.in-Some.ensures.are_words.limit)

pub returns-in-Some-clause-item : goal.returns-in-Some-clause-item
returns-in-Some-clause-item g c =
    (first_taken _ _ _ _ _ c.in-Some.ensures.are_words.fit c.in-Some.ensures.others c.loop-front.invariant.same c.in-Some.ensures.taken c.loop-front.invariant.covers.before).1

pub returns-in-Some-clause-words : goal.returns-in-Some-clause-words
returns-in-Some-clause-words g c =
    (first_taken _ _ _ _ _ c.in-Some.ensures.are_words.fit c.in-Some.ensures.others c.loop-front.invariant.same c.in-Some.ensures.taken c.loop-front.invariant.covers.before).2

pub returns-clause-item : goal.returns-clause-item
returns-clause-item g c = none_left _ _ _ c.loop-front.invariant.covers c.loop-front-test.false c.loop-front.invariant.same
