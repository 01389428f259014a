use Rattle.std.proofs.Common.{◌≡◌, true, false, arith}
use Rattle.enumset_repr.specs.BitSet.{is_subset}
use Rattle.enumset_sets.specs.Laws.Counts.{fewer_left_than}
use Rattle.enumset_sets.specs.Laws.FixedPoints.{reached_first, reached_more, reached_last}
use Rattle.enumset_sets.proofs.fixed_points.least_closed.Goals as goal

pub loop-reached-init : goal.loop-reached-init
loop-reached-init g c = reached_first _ _

pub loop-reached-smaller : goal.loop-reached-smaller
loop-reached-smaller g c =
    let more : is_subset c.step-more.result c.loop-reached.reached ≡ false = grind (arith, c.union_with.ensures.changed, c.if-not-union_with.false) in
    rw c.union_with.ensures.union (fewer_left_than _ _ _ c.learn_members.ensures.valid more)

pub loop-reached-preserved : goal.loop-reached-preserved
loop-reached-preserved g c = rw (c.union_with.ensures.union, c.step-more.ensures) (reached_more _ _ _ (g.met.S.Step.monotone _) c.loop-reached.invariant)

pub returns-then-not-union_with : goal.returns-then-not-union_with
returns-then-not-union_with g c =
    let none : is_subset c.step-more.result c.loop-reached.reached ≡ true = grind (arith, c.union_with.ensures.changed, c.if-not-union_with.true) in
    rw (c.union_with.ensures.union, c.step-more.ensures) (reached_last _ _ _ c.loop-reached.invariant (rw c.step-more.ensures at none))
