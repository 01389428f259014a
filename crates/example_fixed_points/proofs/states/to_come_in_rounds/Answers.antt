use Rattle.std.proofs.Common.{◌≡◌, true, false, arith, rules}
use Rattle.enumset.specs.Sets.{is_subset, decided, in_place, valid_bits}
use Rattle.enumset.specs.FixedPoints.{fewer_left_than, monotone_union_over, reached_first, reached_more, reached_last}
use Rattle.example_fixed_points.specs.contracts.state.State.{the_type}
use Rattle.example_fixed_points.proofs.states.to_come_in_rounds.Goals as goal

pub loop-init : goal.loop-init
loop-init c = reached_first _ _

pub loop-smaller : goal.loop-smaller
loop-smaller c =
    let valid : is_subset c.next_of_all.result (valid_bits (in_place the_type)) ≡ true = search rules in
    let new : is_subset c.next_of_all.result c.loop.reached ≡ false = grind (arith, decided) in
    rw c.union_with.ensures.union (fewer_left_than _ _ _ valid new)

pub loop-preserved : goal.loop-preserved
loop-preserved c = rw (c.union_with.ensures.union, c.next_of_all.ensures) (reached_more _ _ _ (monotone_union_over _) c.loop.invariant)

pub returns : goal.returns
returns c = rw (c.union_with.ensures.union, c.next_of_all.ensures) (reached_last _ _ _ c.loop.invariant (rw (← c.next_of_all.ensures) (grind (arith, decided))))
