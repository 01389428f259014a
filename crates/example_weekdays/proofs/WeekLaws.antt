-- Laws of the days of the week.
use Rattle.std.proofs.Common.{◌≡◌, ℕ, ◌+◌, ◌<◌, arith}
use Rattle.std.proofs.lemmas.Bool.Decides.{nat_tests}
use Rattle.enumset.specs.Sets.{place}
use Rattle.example_weekdays.specs.declared.weekday.Weekday.{Weekday}
use Rattle.example_weekdays.specs.Week.{bit, wait, day_after}

pub bit_small : (day : Weekday) → bit day < 7
unfolding place
bit_small day = grind arith

-- a day later the wait is one day longer, until the week is over
pub wait_next : (from day n : ℕ) → from < 7 → day < 7 → wait from day ≡ n → n + 1 < 7 → wait from (day_after day) ≡ n + 1
wait_next from day n f d e more = grind (arith, nat_tests)

pub wait_small : (from q : ℕ) → from < 7 → q < 7 → wait from q < 7
wait_small from q f d = grind (arith, nat_tests)

-- two days for which one waits as long are the same
pub wait_tells : (from p q : ℕ) → from < 7 → p < 7 → q < 7 → wait from p ≡ wait from q → p ≡ q
wait_tells from p q f d e same = grind (arith, nat_tests)
