-- Laws of inference by rules.
--     concluded_by      a number is concluded exactly if it is the conclusion of a rule whose conditions are met
--     monotone_concluded      what is concluded from a subset is a subset of what is concluded from the set
--     concluded_first, concluded_met, concluded_unmet, concluded_last      a loop over the rules, with what it found,
--         at first;  after a rule whose conditions are met;  after one whose are not;  at its end
use Rattle.std.proofs.Common.{◌≡◌, ℕ, true, false, ◌&&◌, ◌==◌, List, [], ◌∷◌, refl, arith, inl, inr}
use Rattle.std.proofs.lemmas.Bool.{cases_Bool}
use Rattle.std.proofs.lemmas.Bool.Decides.{nat_tests}
use Rattle.std.specs.List.{list_any}
use Rattle.enumset_repr.specs.BitSet.{BitSet, contains, empty, insert, union, is_subset}
use Rattle.enumset_repr.specs.Laws.Algebra.{is_subset_trans, empty_union, union_empty}
use Rattle.enumset_repr.specs.Laws.Members.{members}
use Rattle.enumset_repr.specs.Rules.Members.{decided}
use Rattle.enumset_sets.specs.FixedPoints.{IsMonotone}
use Rattle.enumset_sets.specs.Inferences.{concluded}

pub concluded_by : (rules : List (ℕ × BitSet)) (s : BitSet) (q : ℕ) → contains (concluded rules s) q ≡ list_any (λ rule. (q == rule.0) && is_subset rule.1 s) rules
unfolding concluded
concluded_by [] s q = grind (arith, members)
concluded_by (rule ∷ rules) s q = let others = concluded_by rules s q in elim (cases_Bool (is_subset rule.1 s)) [
  | inl met ↦ rw met (grind (arith, members, nat_tests))
  | inr unmet ↦ rw unmet (grind (arith, members, nat_tests))
]

more_concluded : (rules : List (ℕ × BitSet)) (s t : BitSet) → is_subset s t ≡ true → is_subset (concluded rules s) (concluded rules t) ≡ true
unfolding concluded
more_concluded [] s t part = grind (arith, decided)
more_concluded (rule ∷ rules) s t part =
    let others = more_concluded rules s t part in
    elim (cases_Bool (is_subset rule.1 s)) [
      | inl met ↦ let still : is_subset rule.1 t ≡ true = is_subset_trans _ _ _ met part in rw (met, still) (grind (arith, decided))
      | inr unmet ↦ rw unmet (elim (cases_Bool (is_subset rule.1 t)) [
        | inl met ↦ rw met (grind (arith, decided))
        | inr still ↦ rw still others
      ])
    ]

pub monotone_concluded : (rules : List (ℕ × BitSet)) → IsMonotone (concluded rules)
monotone_concluded rules = record { grows = more_concluded rules }

-- ---- a loop over the rules

pub concluded_first : (rules : List (ℕ × BitSet)) (s : BitSet) → union empty (concluded rules s) ≡ concluded rules s
concluded_first rules s = empty_union _

module _ (rule : ℕ × BitSet) (rules : List (ℕ × BitSet)) (s found : BitSet) where
  pub concluded_met : is_subset rule.1 s ≡ true → union (insert found rule.0) (concluded rules s) ≡ union found (concluded (rule ∷ rules) s)
  unfolding concluded
  concluded_met met = rw met (grind (arith, decided))

  pub concluded_unmet : is_subset rule.1 s ≡ false → union found (concluded rules s) ≡ union found (concluded (rule ∷ rules) s)
  unfolding concluded
  concluded_unmet unmet = rw unmet refl

pub concluded_last : (s found : BitSet) → union found (concluded [] s) ≡ found
unfolding concluded
concluded_last s found = union_empty found
