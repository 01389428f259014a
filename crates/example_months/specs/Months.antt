-- Written by enumset_derive example_months months from Month: change the source, and write this again.
use Rattle.std.specs.Prelude.{ℕ}
use Rattle.enumset.specs.Sets.{in_place}
use Rattle.example_months.specs.contracts.months.Month.{the_type}
use Rattle.example_months.specs.declared.months.Month.{Month}

abbrev pub bit : Month → ℕ
bit v = (in_place the_type).bit v
