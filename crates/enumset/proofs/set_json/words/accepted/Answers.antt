use Rattle.std.proofs.Common.{◌≡◌, true, false, Ok, refl, sym, ap, ◌∙◌}
use Rattle.std.proofs.lemmas.Bool.{false_from_ne_true, both_ways}
use Rattle.enumset_repr.specs.BitSet.{is_subset, intersection}
use Rattle.enumset_repr.specs.Laws.Algebra.{intersection_right, is_subset_trans}
use Rattle.enumset_repr.specs.Laws.Widths.{low_intersection, low_within}
use Rattle.enumset_sets.specs.Elements.{valid_bits}
use Rattle.enumset.proofs.set_json.words.accepted.Goals.{then-is_whole+else-is_subset_of, else-is_whole}
use Rattle.enumset.proofs.set_json.words.accepted.Goals as goal

pub new-requires : goal.new-requires
new-requires g c = record {
  valid = ap (λ s. is_subset s (valid_bits g.T.EnumSetType.elements)) ((g.met.T.Repr.EnumSetTypeRepr.operators.bitand _ _ _ c.bitand.ensures) ∙ (λ i. intersection (g.T.Repr.EnumSetTypeRepr.members c.args.words.repr) (c.valid_repr-all.ensures.members i)))
      ∙ intersection_right _ _;
}

pub returns-in-Drop : goal.returns-in-Drop
returns-in-Drop g c bits cut whole =
    rw c.in-Drop.is
    (ap Ok (c.new.ensures ∙ (g.met.T.Repr.EnumSetTypeRepr.operators.bitand _ _ _ c.bitand.ensures)
    ∙ (λ i. intersection (cut i) (c.valid_repr-all.ensures.members i))
    ∙ low_intersection _ _ g.T.Repr.EnumSetTypeRepr.WIDTH c.valid_repr-all.ensures.within))

pub returns-in-Refuse : goal.returns-in-Refuse
returns-in-Refuse g c bits cut whole =
    let kept = cut ∙ low_within _ _ (sym whole ∙ c.if-is_whole.true) in
    let valid : is_subset bits (valid_bits g.T.EnumSetType.elements) ≡ true =
    (λ i. is_subset (sym kept i) (sym c.valid_repr-all.ensures.members i)) ∙ sym c.is_subset_of.ensures ∙ c.if-is_subset_of.true in
    rw (c.in-Refuse.is, valid) (ap Ok (c.new-in-Refuse.ensures ∙ kept))

pub returns-in-Refuse-2 : goal.returns-in-Refuse-2
returns-in-Refuse-2 g c bits cut whole =
    let other : is_subset bits (valid_bits g.T.EnumSetType.elements) ≡ false =
    elim c.if-is_whole.branch [
      | then-is_whole+else-is_subset_of w ↦
          (λ i. is_subset (sym (cut ∙ low_within _ _ (sym whole ∙ w.if-is_whole.true)) i) (sym c.valid_repr-all.ensures.members i)) ∙ sym w.is_subset_of.ensures ∙ w.if-is_subset_of.false
      | else-is_whole w ↦
          false_from_ne_true _ (λ valid. both_ways _ (sym whole ∙ w.if-is_whole.false) (is_subset_trans _ _ _ valid c.valid_repr-all.ensures.within))
    ] in
    rw (c.in-Refuse-2.is, other) refl
