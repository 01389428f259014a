-- Days of the week as numbers, from 0 for Monday to 6 for Sunday.
--     bit      the number of a day
--     week      the days of the week
--     day_after, wait      the day after one;  how many days from one day on until another comes
--     IsNearest      a day is in a set, and no day of the set comes sooner
use Rattle.std.specs.Prelude.{◌≡◌, ℕ, ◌+◌, ◌-◌, ◌≤◌, ◌==◌, nat_le, if◌then◌else◌, true}
use Rattle.enumset.specs.Sets.{BitSet, contains, below, in_place}
use Rattle.example_weekdays.specs.declared.weekday.Weekday.{Weekday}
use Rattle.example_weekdays.specs.contracts.weekday.Weekday.{the_type}

abbrev pub bit : Weekday → ℕ
bit day = (in_place the_type).bit day

abbrev pub week : BitSet
week = below 7

abbrev pub day_after : ℕ → ℕ
day_after day = if day == 6 then 0 else day + 1

abbrev pub wait : ℕ → ℕ → ℕ
wait from day = if nat_le from day then day - from else day + 7 - from

abbrev pub IsNearest : BitSet → ℕ → ℕ → Type 0
IsNearest days from day = (contains days day ≡ true) × ((q : ℕ) → contains days q ≡ true → wait from day ≤ wait from q)
