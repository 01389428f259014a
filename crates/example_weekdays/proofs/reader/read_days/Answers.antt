use Rattle.std.proofs.Common.{◌≡◌, Some, None, Err, sym, arith}
use Rattle.example_weekdays.specs.Schedules.{days_in, day_named, no_day}
use Rattle.example_weekdays.specs.Week.{bit}
use Rattle.example_weekdays.proofs.WordLaws.{words_step, words_end}
use Rattle.example_weekdays.proofs.reader.read_days.Goals as goal

pub returns-in_err-ok_or-clause-fault : goal.returns-in_err-ok_or-clause-fault
returns-in_err-ok_or-clause-fault c =
    let words = words_step c.loop-word.word-iterator c.next.new.self c.in-Some-word.word c.in-Some-word.ensures.steps in
    let none : day_named c.in-Some-word.word.now ≡ None = grind arith in
    let read : days_in c.args.number c.args.line.now ≡ Err (no_day c.args.number c.in-Some-word.word.now) = sym (rw (words, none) at c.loop-word.invariant) in
    grind arith

pub loop-word-preserved : goal.loop-word-preserved
loop-word-preserved c =
    let words = words_step c.loop-word.word-iterator c.next.new.self c.in-Some-word.word c.in-Some-word.ensures.steps in
    let found : day_named c.in-Some-word.word.now ≡ Some (bit c.in_ok-ok_or.field-0) = grind arith in
    rw c.insert.ensures.inserted (rw (words, found) at c.loop-word.invariant)

pub returns-clause-days : goal.returns-clause-days
returns-clause-days c = let end = words_end c.loop-word.word-iterator c.next.new.self c.in-None.ensures.steps in sym (rw end at c.loop-word.invariant)
