use Rattle.std.proofs.Common.{◌≡◌, ◌<◌, length, true, ap, ◌∙◌, rules, arith}
use Rattle.std.proofs.lemmas.List.{get_or_default}
use Rattle.enumset.specs.Sets as set
use Rattle.enumset.specs.FixedPoints.{many_gathered, many_pass_first, many_pass_next, many_pass_last, place_below, passed_next, passed_whole}
use Rattle.example_fixed_points.specs.contracts.nonterminal.Nonterminal as grammar
use Rattle.example_fixed_points.specs.contracts.token.Token as text
use Rattle.example_fixed_points.proofs.grammar_in_passes.all_first.Goals as goal

-- at first no place is passed
pub loop-of-init : goal.loop-of-init
loop-of-init c =
    let all = set.valid_bits (set.in_place grammar.the_type) in
    let items = c.into_iter-of-iterator.ensures.into_iter_gives.0.items ∙ ap set.ascending c.all-of-items.ensures in
    many_pass_first _ _ _ _ _ c.loop-changed.invariant.reached (ap (λ bs. set.difference all (set.from_list bs)) items ∙ ap (set.difference all) (set.from_list_ascending all) ∙ set.difference_self all)

pub bounds-sets-place : goal.bounds-sets-place
bounds-sets-place c =
    let below : set.place grammar.the_type c.in-Some.of < 15 = place_below grammar.the_type c.in-Some.of in
    omega (arith, below, c.bit_index-place.ensures.bit)

pub listed : goal.listed
listed c =
    let below : set.place grammar.the_type c.in-Some.of < 15 = place_below grammar.the_type c.in-Some.of in
    omega (arith, below, c.bit_index-place.ensures.bit, c.loop-of.invariant.grown.count, c.loop-changed.invariant.reached.begun.count)

pub loop-of-preserved : goal.loop-of-preserved
loop-of-preserved c =
    let below : set.place grammar.the_type c.in-Some.of < 15 = place_below grammar.the_type c.in-Some.of in
    let here : set.place grammar.the_type c.in-Some.of < length c.loop-of.sets = omega (arith, below, c.loop-of.invariant.grown.count, c.loop-changed.invariant.reached.begun.count) in
    let valid : set.is_subset c.first_at_once-more.result (set.valid_bits (set.in_place text.the_type)) ≡ true = search rules in
    let read = get_or_default c.loop-of.sets (set.place grammar.the_type c.in-Some.of) c.index-sets-place.result set.empty here in
    rw (c.union_with-changed.ensures.union, c.union_with-changed.ensures.changed, c.bit_index-place.ensures.bit, read, c.first_at_once-more.ensures)
    (many_pass_next _ _ _ _ _ _ _ _ _ (many_gathered _ _) c.loop-of.invariant here (rw c.first_at_once-more.ensures at valid) (rw c.in-Some.ensures.steps.0 (passed_next _ _ _)))

pub loop-changed-preserved : goal.loop-changed-preserved
loop-changed-preserved c = many_pass_last _ _ _ _ _ _ _ c.loop-of.invariant (λ place here. rw c.in-None.ensures.steps.0.0 (passed_whole grammar.the_type place (omega (arith, c.loop-of.invariant.grown.count, c.loop-changed.invariant.reached.begun.count))))
