use Rattle.std.proofs.Common.{◌≡◌, ℕ, true, false, arith, sym, ap, subst, refl, ◌∙◌}
use Rattle.enumset_repr.specs.BitSet.{BitSet, contains, insert, is_disjoint}
use Rattle.enumset_repr.specs.Laws.Algebra.{contains_inserted}
use Rattle.enumset_repr.specs.Rules.Members.{decided}
use Rattle.enumset_sets.specs.Laws.Counts.{fewer_left}
use Rattle.enumset_sets.specs.FixedPoints.{IsWorklist}
use Rattle.enumset_sets.specs.Laws.FixedPoints.{worklist_first, worklist_next, worklist_last, pending_next, pending_apart}
use Rattle.enumset_sets.proofs.fixed_points.reachable.Goals as goal

pub loop-element-init : goal.loop-element-init
loop-element-init g c = rw c.new-done.ensures (grind (arith, decided), λ rows leads. worklist_first rows _)

absent : (done pending : BitSet) (b : ℕ) → is_disjoint done pending ≡ true → contains pending b ≡ true → contains done b ≡ false
absent done pending b apart here = grind (arith, decided)

popped_here : (old new : BitSet) (b : ℕ) → old ≡ insert new b → contains old b ≡ true
popped_here old new b put_back = ap (λ s. contains s b) put_back ∙ contains_inserted new b

pub loop-element-smaller : goal.loop-element-smaller
loop-element-smaller g c =
    let law = g.met.T.EnumSetType.lawful in
    let b = g.T.EnumSetType.elements.bit c.in-Some.element in
    let here = popped_here _ _ _ c.in-Some.ensures.put_back in
    let valid = ap (λ s. contains s b) (sym law.valid) ∙ law.bit_is_valid c.in-Some.element in
    rw c.insert.ensures.inserted (fewer_left _ _ _ valid (absent _ _ _ c.loop-element.invariant.0 here))

pub loop-element-preserved : goal.loop-element-preserved
loop-element-preserved g c =
    let here = popped_here _ _ _ c.in-Some.ensures.put_back in
    rw (c.union_with.ensures.union, c.difference_with.ensures.difference, c.insert.ensures.inserted, c.in-Some.ensures.removed) (
      pending_apart _ _ _ _ c.loop-element.invariant.0,
      λ rows leads. let row = leads _ _ _ c.next.ensures c.into-more.ensures in
          rw row (worklist_next rows _ _ _ _ _ _ (c.loop-element.invariant.1 rows leads) here refl (pending_next _ _ _ _ here) (pending_apart _ _ _ _ c.loop-element.invariant.0)),
    )

pub returns : goal.returns
returns g c rows leads = worklist_last rows _ _ (subst (IsWorklist rows _ _) c.in_default.ensures.none.0 (c.loop-element.invariant.1 rows leads))
