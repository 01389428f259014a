use Rattle.std.proofs.Common.{◌≡◌, true, false, arith, rules}
use Rattle.enumset.specs.Sets.{is_subset, decided}
use Rattle.enumset_sets.specs.Laws.Counts.{fewer_left_than}
use Rattle.enumset_sets.specs.Laws.FixedPoints.{monotone_union_over, reached_first, reached_more, reached_last}
use Rattle.example_set_facts.specs.Needs.{all_features}
use Rattle.example_set_facts.proofs.needs.with_needs.Goals as goal

pub loop-init : goal.loop-init
loop-init c = reached_first _ _

pub loop-smaller : goal.loop-smaller
loop-smaller c =
    let valid : is_subset c.needed.result all_features ≡ true = search rules in
    let new : is_subset c.needed.result c.loop.reached ≡ false = grind (arith, decided) in
    rw c.union_with.ensures.union (fewer_left_than _ _ _ valid new)

pub loop-preserved : goal.loop-preserved
loop-preserved c = rw (c.union_with.ensures.union, c.needed.ensures) (reached_more _ _ _ (monotone_union_over _) c.loop.invariant)

pub returns : goal.returns
returns c = rw (c.union_with.ensures.union, c.needed.ensures) (reached_last _ _ _ c.loop.invariant (rw (← c.needed.ensures) (grind (arith, decided))))
