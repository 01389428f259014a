use Rattle.std.proofs.Common.{◌≡◌, drop}
use Rattle.enumset.specs.Sets.{intersection_all}
use Rattle.example_weekdays.specs.Week.{week}
use Rattle.example_weekdays.proofs.schedule.common_days.Given as goal

-- the days so far that are also in the remaining schedules are the days common to all
abbrev pub invariant-loop-schedule : goal.invariant-loop-schedule
invariant-loop-schedule l = intersection_all l.days (drop l.schedule-index l.schedules) ≡ intersection_all week l.schedules
