use Rattle.std.proofs.Common.{◌≡◌, true, false, rules, sym, ◌∙◌}
use Rattle.enumset.specs.Sets.{is_same, is_subset, in_place, valid_bits}
use Rattle.enumset.specs.FixedPoints.{monotone_union_over, reached_more, round_last, round_smaller}
use Rattle.example_fixed_points.specs.contracts.state.State.{the_type}
use Rattle.example_fixed_points.proofs.states.to_come_by_comparison.Goals as goal

pub loop-reached-smaller : goal.loop-reached-smaller
loop-reached-smaller c =
    let valid : is_subset c.next_of_all.result (valid_bits (in_place the_type)) ≡ true = search rules in
    let new : is_same c.insert_all.new.self c.loop-reached.reached ≡ false = sym c.eq.ensures ∙ c.if-eq.false in
    rw c.insert_all.ensures (round_smaller _ _ _ valid (rw c.insert_all.ensures at new))

pub loop-reached-preserved : goal.loop-reached-preserved
loop-reached-preserved c = rw (c.insert_all.ensures, c.next_of_all.ensures) (reached_more _ _ _ (monotone_union_over _) c.loop-reached.invariant)

pub returns-then-eq : goal.returns-then-eq
returns-then-eq c =
    let same : is_same c.insert_all.new.self c.loop-reached.reached ≡ true = sym c.eq.ensures ∙ c.if-eq.true in
    rw (c.insert_all.ensures, c.next_of_all.ensures) (round_last _ _ _ c.loop-reached.invariant (rw (c.insert_all.ensures, c.next_of_all.ensures) at same))
