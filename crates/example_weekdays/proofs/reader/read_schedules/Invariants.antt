use Rattle.std.proofs.Common.{◌≡◌, ◌+◌}
use Rattle.std.specs.Iterator.Adapters.{enumerate_source, enumerate_count}
use Rattle.std.specs.Str.Iter.{lines_rest}
use Rattle.std.specs.Str.Lines.{lines}
use Rattle.example_weekdays.specs.Schedules.{schedules_from, schedules_in}
use Rattle.example_weekdays.proofs.ScheduleLaws.{after}
use Rattle.example_weekdays.proofs.reader.read_schedules.Given as goal

-- the schedules so far, and then the schedules of the remaining lines, are all
abbrev pub invariant-loop-place : goal.invariant-loop-place
invariant-loop-place l =
    after l.schedules.items (schedules_from (enumerate_count l.place-iterator + 1) (lines (lines_rest (enumerate_source l.place-iterator)))) ≡ schedules_in l.text
