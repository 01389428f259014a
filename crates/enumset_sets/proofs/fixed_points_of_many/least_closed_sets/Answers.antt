use Rattle.std.proofs.Common.{◌<◌, length, arith}
use Rattle.std.proofs.lemmas.List.{get_or_default}
use Rattle.enumset_repr.specs.BitSet.{empty}
use Rattle.enumset_sets.specs.Laws.FixedPointsOfMany.{passed_first, many_pass_first, many_pass_next, many_pass_last, below_first, below_next, below_whole}
use Rattle.enumset_sets.proofs.fixed_points_of_many.least_closed_sets.Goals as goal

pub loop-changed-init : goal.loop-changed-init
loop-changed-init g c = passed_first _ _

pub loop-place-init : goal.loop-place-init
loop-place-init g c = many_pass_first _ _ _ _ _ c.loop-changed.invariant.reached below_first

pub loop-place-preserved : goal.loop-place-preserved
loop-place-preserved g c =
    let here : c.loop-place.place < length c.loop-place.sets = omega arith in
    let read = get_or_default c.loop-place.sets c.loop-place.place c.index-sets-place.result empty here in
    rw (c.union_with-changed.ensures.union, c.union_with-changed.ensures.changed, read, c.step-more.ensures)
    (many_pass_next _ _ _ _ _ _ _ _ _ (g.met.S.StepForMany.monotone _) c.loop-place.invariant here (rw c.step-more.ensures at c.learn_members.ensures.valid) (below_next _))

pub loop-changed-preserved : goal.loop-changed-preserved
loop-changed-preserved g c = many_pass_last _ _ _ _ _ _ _ c.loop-place.invariant (λ place here. below_whole _ place (omega arith))
