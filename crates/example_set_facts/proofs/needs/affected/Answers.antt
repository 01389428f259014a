use Rattle.std.proofs.Common.{◌≡◌, true, false, ap, ◌∙◌, arith, rules}
use Rattle.enumset.specs.FixedPoints.{leading_to}
use Rattle.enumset.specs.Sets.{ascending, contains, is_subset, is_disjoint, from_list, place_is_valid, decided}
use Rattle.enumset_repr.specs.Laws.Algebra.{from_list_ascending}
use Rattle.enumset_repr.specs.Laws.Firsts.{from_list_empty, from_list_next}
use Rattle.enumset_sets.specs.Laws.FixedPoints.{contains_leading_to, leading_to_is_subset, monotone_leading_to, pass_first, pass_adds, pass_by, pass_last, pass_smaller}
use Rattle.example_set_facts.specs.Bits.{feature}
use Rattle.example_set_facts.specs.Needs.{needs, all_features}
use Rattle.example_set_facts.specs.contracts.features.Feature.{the_type}
use Rattle.example_set_facts.proofs.needs.affected.Goals as goal

pub loop-feature-2-init : goal.loop-feature-2-init
loop-feature-2-init c =
    let listed : c.into_iter-feature-iterator.result.items ≡ ascending all_features = search rules in
    let left : from_list c.into_iter-feature-iterator.result.items ≡ all_features = ap from_list listed ∙ from_list_ascending all_features in
    rw left (c.loop-feature.invariant.0, pass_first _ _ _ _ c.loop-feature.invariant.1 (leading_to_is_subset _ _ _))

pub loop-feature-2-preserved-then-not-is_disjoint : goal.loop-feature-2-preserved-then-not-is_disjoint
loop-feature-2-preserved-then-not-is_disjoint c =
    let is_next = ap from_list c.in-Some.ensures.steps.0 ∙ from_list_next _ _ in
    let asked = c.is_disjoint.ensures in
    let is = c.if-not-is_disjoint.true in
    let valid = (place_is_valid the_type c.in-Some.feature).1 in
    let touched : is_disjoint c.needs_of.result c.loop-feature-2.reached ≡ false = grind arith in
    let inside = c.loop-feature-2.invariant.0 in
    let led : contains (leading_to all_features needs c.loop-feature-2.reached) (feature c.in-Some.feature) ≡ true = grind (arith, contains_leading_to, rw c.needs_of.ensures at touched) in
    rw c.insert.ensures.inserted (grind (arith, decided), pass_adds _ _ _ _ _ _ _ (monotone_leading_to _ _) c.loop-feature-2.invariant.1 is_next led)

pub loop-feature-2-preserved : goal.loop-feature-2-preserved
loop-feature-2-preserved c =
    let is_next = ap from_list c.in-Some.ensures.steps.0 ∙ from_list_next _ _ in
    let asked = c.is_disjoint.ensures in
    let is = c.if-not-is_disjoint.false in
    let untouched : is_disjoint c.needs_of.result c.loop-feature-2.reached ≡ true = grind arith in
    let not_led : contains (leading_to all_features needs c.loop-feature-2.reached) (feature c.in-Some.feature) ≡ false = grind (arith, contains_leading_to, rw c.needs_of.ensures at untouched) in
    (c.loop-feature-2.invariant.0, pass_by _ _ _ _ _ _ _ (monotone_leading_to _ _) c.loop-feature-2.invariant.1 is_next not_led)

pub returns-then-eq : goal.returns-then-eq
returns-then-eq c =
    let none = ap from_list c.in-None.ensures.steps.0.0 ∙ from_list_empty in
    let compared = c.eq.ensures in
    let is = c.if-eq.true in
    let same : c.loop-feature-2.reached ≡ c.loop-feature.reached = grind (arith, decided) in
    pass_last _ _ _ _ _ c.loop-feature-2.invariant.1 none same

pub loop-feature-smaller : goal.loop-feature-smaller
loop-feature-smaller c =
    let valid = c.loop-feature-2.invariant.0 in
    let grown = c.loop-feature-2.invariant.1.grown in
    let compared = c.eq.ensures in
    let is = c.if-eq.false in
    let new : is_subset c.loop-feature-2.reached c.loop-feature.reached ≡ false = grind (arith, decided) in
    pass_smaller _ _ _ valid grown new
