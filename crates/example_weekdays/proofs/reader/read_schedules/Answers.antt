use Rattle.std.proofs.Common.{◌≡◌, ◌==◌, ◌+◌, ◌++◌, ◌∷◌, [], true, false, length, Ok, subst, arith}
use Rattle.std.specs.Iterator.Adapters.{enumerate_source, enumerate_count}
use Rattle.std.proofs.lemmas.Bool.Decides.{nat_tests}
use Rattle.example_weekdays.specs.Schedules.{days_in, schedules_in, IsFaultOf}
use Rattle.example_weekdays.proofs.LineLaws.{lines_step}
use Rattle.example_weekdays.proofs.ScheduleLaws.{after_more, fault_of_next}
use Rattle.example_weekdays.proofs.reader.read_schedules.Goals as goal

pub returns-in_err-read_days-clause-fault : goal.returns-in_err-read_days-clause-fault
returns-in_err-read_days-clause-fault c =
    let lines = lines_step (enumerate_source c.loop-place.place-iterator) (enumerate_source c.next.new.self) c.in-Some.line c.in-Some.ensures.steps.0 in
    let filled : (length c.in-Some.line.now == 0) ≡ false = grind (arith, nat_tests) in
    let fault : IsFaultOf (days_in (c.in-Some.place + 1) c.in-Some.line.now) c.in_err-read_days.field-0.0 = grind arith in
    let place : enumerate_count c.loop-place.place-iterator ≡ c.in-Some.place = grind arith in
    let read = rw place at (rw (lines, filled) at c.loop-place.invariant) in
    let wrong : IsFaultOf (schedules_in c.args.text.now) c.in_err-read_days.field-0.0 = subst (λ r. IsFaultOf r c.in_err-read_days.field-0.0) read (fault_of_next c.loop-place.schedules.items _ _ _ fault) in
    grind arith

pub loop-place-preserved-in_ok-push : goal.loop-place-preserved-in_ok-push
loop-place-preserved-in_ok-push c =
    let lines = lines_step (enumerate_source c.loop-place.place-iterator) (enumerate_source c.next.new.self) c.in-Some.line c.in-Some.ensures.steps.0 in
    let filled : (length c.in-Some.line.now == 0) ≡ false = grind (arith, nat_tests) in
    let days : days_in (enumerate_count c.loop-place.place-iterator + 1) c.in-Some.line.now ≡ Ok c.in_ok-read_days.field-0 = grind arith in
    let count : enumerate_count c.next.new.self ≡ enumerate_count c.loop-place.place-iterator + 1 = grind arith in
    let items : c.push.new.self.items ≡ c.loop-place.schedules.items ++ c.in_ok-read_days.field-0 ∷ [] = grind arith in
    rw (items, count, ← after_more c.loop-place.schedules.items c.in_ok-read_days.field-0 _) (rw (lines, filled, days) at c.loop-place.invariant)

pub loop-place-preserved : goal.loop-place-preserved
loop-place-preserved c =
    let lines = lines_step (enumerate_source c.loop-place.place-iterator) (enumerate_source c.next.new.self) c.in-Some.line c.in-Some.ensures.steps.0 in
    let empty : (length c.in-Some.line.now == 0) ≡ true = grind (arith, nat_tests) in
    let count : enumerate_count c.next.new.self ≡ enumerate_count c.loop-place.place-iterator + 1 = grind arith in
    rw count (rw (lines, empty) at c.loop-place.invariant)
