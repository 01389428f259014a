use Rattle.std.proofs.Common.{refl, arith}
use Rattle.enumset_repr.specs.Laws.Members.{members, same_set, member_below}
use Rattle.enumset.specs.Sets.{valid_bits}
use Rattle.example_weekdays.specs.Week.{bit}
use Rattle.example_weekdays.proofs.WeekLaws.{bit_small, wait_next, wait_small, wait_tells}
use Rattle.example_weekdays.proofs.schedule.nearest_day.Goals as goal

pub loop-preserved : goal.loop-preserved
unfolding valid_bits
loop-preserved c =
    let far = c.loop.invariant.far c.loop-test.true in
    record {
      far = λ more. rw c.following-day.ensures (wait_next _ _ _ (bit_small _) (bit_small _) far more);
      none = λ q one.
          let inside = member_below c.args.days 7 q (rw (← c.bits_below.ensures.list) c.members_are_valid.ensures.valid) one in
          let same = wait_tells (bit c.args.from) q (bit c.loop.day) (bit_small _) inside (bit_small _) in
          let near = c.loop.invariant.none q one in
          grind arith;
    }

pub returns-clause-none : goal.returns-clause-none
unfolding valid_bits
returns-clause-none c = (
  λ _. same_set _ _ (λ q.
      let inside = member_below c.args.days 7 q (rw (← c.bits_below.ensures.list) c.members_are_valid.ensures.valid) in
      let small = wait_small (bit c.args.from) q (bit_small _) in
      let none = c.loop.invariant.none q in
      grind (arith, members)),
  λ _. refl,
)
