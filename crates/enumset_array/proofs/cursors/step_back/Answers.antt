use Rattle.std.proofs.Common.{arith}
use Rattle.enumset_array.proofs.TakenOut.{last_taken, none_left}
use Rattle.enumset_array.proofs.cursors.step_back.Goals as goal

pub overflow_add-result : goal.overflow_add-result
overflow_add-result g c =
    let taken = last_taken _ _ _ _ _ c.in-Some.ensures.are_words.fit c.in-Some.ensures.others c.loop-back.invariant.same c.in-Some.ensures.taken (λ j past. c.loop-back.invariant.covers.past j (omega arith)) in
    omega (arith, taken.0, c.loop-back.invariant.covers.within, c.in-Some.ensures.are_words.limit)

pub returns-in-Some-clause-item : goal.returns-in-Some-clause-item
returns-in-Some-clause-item g c =
    (last_taken _ _ _ _ _ c.in-Some.ensures.are_words.fit c.in-Some.ensures.others c.loop-back.invariant.same c.in-Some.ensures.taken (λ j past. c.loop-back.invariant.covers.past j (omega arith))).1

pub returns-in-Some-clause-words : goal.returns-in-Some-clause-words
returns-in-Some-clause-words g c =
    (last_taken _ _ _ _ _ c.in-Some.ensures.are_words.fit c.in-Some.ensures.others c.loop-back.invariant.same c.in-Some.ensures.taken (λ j past. c.loop-back.invariant.covers.past j (omega arith))).2

pub returns-clause-item : goal.returns-clause-item
returns-clause-item g c = none_left _ _ _ c.loop-back.invariant.covers c.loop-back-test.false c.loop-back.invariant.same
