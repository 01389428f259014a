use Rattle.std.proofs.Common.{◌≡◌, ℕ, true, false, refl, ap, subst, ◌∙◌, arith}
use Rattle.enumset.specs.FixedPoints.{IsWorklist}
use Rattle.enumset.specs.Sets.{BitSet, contains, is_disjoint, place_is_valid, decided}
use Rattle.enumset_repr.specs.Laws.Algebra.{contains_inserted}
use Rattle.enumset_sets.specs.Laws.FixedPoints.{worklist_first, worklist_next, worklist_last, worklist_smaller, pending_next, pending_apart}
use Rattle.example_set_facts.specs.Bits.{feature}
use Rattle.example_set_facts.specs.contracts.features.Feature.{the_type}
use Rattle.example_set_facts.proofs.needs.needed_in_turn.Goals as goal

pub loop-feature-init : goal.loop-feature-init
loop-feature-init c = rw c.new-done.ensures (worklist_first _ _)

pub loop-feature-smaller-then-insert : goal.loop-feature-smaller-then-insert
loop-feature-smaller-then-insert c =
    let popped = c.in-Some.ensures in
    let here = ap (λ s. contains s (feature c.in-Some.feature)) popped.put_back ∙ contains_inserted _ _ in
    rw c.insert.ensures.inserted (worklist_smaller _ _ _ _ _ _ c.loop-feature.invariant here (place_is_valid the_type c.in-Some.feature).1)

pub loop-feature-preserved-then-insert : goal.loop-feature-preserved-then-insert
loop-feature-preserved-then-insert c =
    let popped = c.in-Some.ensures in
    let here = ap (λ s. contains s (feature c.in-Some.feature)) popped.put_back ∙ contains_inserted _ _ in
    rw (c.bitor_assign.ensures.after, c.sub.ensures, c.insert.ensures.inserted, c.needs_of.ensures, popped.removed) (worklist_next _ _ _ _ _ _ _ c.loop-feature.invariant here refl (pending_next _ _ _ _ here) (pending_apart _ _ _ _ c.loop-feature.invariant.apart))

-- a feature that was pending was not done
not_done : (done pending : BitSet) (b : ℕ) → is_disjoint done pending ≡ true → contains pending b ≡ true → contains done b ≡ false
not_done done pending b apart here = grind (arith, decided)

pub loop-feature-smaller : goal.loop-feature-smaller
loop-feature-smaller c =
    let here = ap (λ s. contains s (feature c.in-Some.feature)) c.in-Some.ensures.put_back ∙ contains_inserted _ _ in
    let new = not_done _ _ _ c.loop-feature.invariant.apart here in
    absurd (grind (arith, new, c.insert.ensures.was_absent, c.if-insert.false))

pub loop-feature-preserved : goal.loop-feature-preserved
loop-feature-preserved c =
    let here = ap (λ s. contains s (feature c.in-Some.feature)) c.in-Some.ensures.put_back ∙ contains_inserted _ _ in
    let new = not_done _ _ _ c.loop-feature.invariant.apart here in
    absurd (grind (arith, new, c.insert.ensures.was_absent, c.if-insert.false))

pub returns : goal.returns
returns c = worklist_last _ _ _ (subst (IsWorklist _ _ _) c.in_default.ensures.none.0 c.loop-feature.invariant)
