-- What is in the least closed sets of a step for many sets, and of a step by which sets flow from place to place.
--     many_least_closed_each      what is true of the members of the start, and passes on by the step, is true of each
--         member in its place
--     reachable_before      what can be reached from where a number leads can be reached from the number
--     gathered_reachable, gathered_reachable_from_empty      of a gathered step, a set has exactly what arises, or is
--         at the start, at some place that its own place can reach;  the same of a start of empty sets
use Rattle.std.proofs.Common.{◌≡◌, ◌⊎◌, ◌<◌, ◌≤◌, ◌↔◌, ℕ, zero, suc, true, false, List, length, set, sym, subst, ◌∙◌, arith, inl, inr}
use Rattle.std.proofs.lemmas.Bool.{cases_Bool, cases_eq, cases_lt, or_cases}
use Rattle.std.proofs.lemmas.Bool.Decides.{nat_tests}
use Rattle.std.proofs.lemmas.List.{length-set, get_or_past, get_or-set_same, get_or-set_other}
use Rattle.std.proofs.lemmas.List.Folds.{list_any_at}
use Rattle.enumset_repr.specs.BitSet.{BitSet, contains, empty, only, union, is_subset}
use Rattle.enumset_repr.specs.Laws.Algebra.{is_subset_trans, union_left, union_right}
use Rattle.enumset_repr.specs.Laws.Members.{members, contains_union, contains_is_subset, is_subset_contains}
use Rattle.enumset_repr.specs.Rules.Members.{decided}
use Rattle.enumset_sets.specs.Folds.{union_all}
use Rattle.enumset_sets.specs.Laws.ManySets.{contains_union_all}
use Rattle.enumset_sets.specs.FixedPoints.{IsReachable, at_start, from_other}
use Rattle.enumset_sets.specs.Laws.FixedPoints.{contains_union_over}
use Rattle.enumset_sets.specs.FixedPointsOfMany.{set_at, AreWithin, IsMonotoneForMany, AreLeastClosed, lacking, gathered}
use Rattle.enumset_sets.specs.Laws.FixedPointsOfMany.{within_itself, many_gathered, many_lacking_less}

-- each set of a list is inside their union
in_all : (sets : List BitSet) (place : ℕ) → is_subset (set_at sets place) (union_all sets) ≡ true
in_all sets place = elim (cases_lt place (length sets)) [
  | inl here ↦ contains_is_subset _ _ (λ q one. contains_union_all sets q ∙ list_any_at (λ s. contains s q) sets place empty here one)
  | inr past ↦ rw (get_or_past sets place empty past) (grind (arith, decided))
]

both_inside : (t u v : BitSet) → is_subset t v ≡ true → is_subset u v ≡ true → is_subset (union t u) v ≡ true
both_inside t u v one other = grind (arith, decided)

-- the sets are closed below a place, or some set is not
search_open : (step : List BitSet → ℕ → BitSet) (sets : List BitSet) (n : ℕ)
    → ((place : ℕ) → place < n → is_subset (step sets place) (set_at sets place) ≡ true) ⊎ ((place : ℕ) × (place < n) × (is_subset (step sets place) (set_at sets place) ≡ false))
search_open step sets zero = inl (λ place here. absurd (omega arith))
search_open step sets (suc n) = elim (cases_Bool (is_subset (step sets n) (set_at sets n))) [
  | inr new ↦ inr (n, omega arith, new)
  | inl closed ↦ elim (search_open step sets n) [
    | inr (place, here, new) ↦ inr (place, omega arith, new)
    | inl below ↦ inl (λ place here. elim (cases_eq place n) [
      | inl same ↦ subst (λ p. is_subset (step sets p) (set_at sets p) ≡ true) (sym same) closed
      | inr other ↦ below place (omega arith)
    ])
  ]
]

module _ (step : List BitSet → ℕ → BitSet) (start sets : List BitSet) (monotone : IsMonotoneForMany step) (are : AreLeastClosed step start sets) (P : ℕ → ℕ → Type 0)
    (first : (place q : ℕ) → contains (set_at start place) q ≡ true → P place q)
    (next : (some : List BitSet) → ((place q : ℕ) → contains (set_at some place) q ≡ true → P place q) → (place q : ℕ) → contains (step some place) q ≡ true → P place q) where
  -- what `step` makes in one place is added to the set there
  module _ (some : List BitSet) (place : ℕ) (here : place < length some) where
    abbrev more : List BitSet
    more = set some place (union (set_at some place) (step some place))

    by_place : (Q : ℕ → BitSet → Type 0) → Q place (union (set_at some place) (step some place)) → ((p : ℕ) → Q p (set_at some p)) → (p : ℕ) → Q p (set_at more p)
    by_place Q one others p = elim (cases_eq p place) [
      | inl same ↦ subst (λ r. Q r (set_at more r)) (sym same) (subst (Q place) (sym (get_or-set_same some place _ empty here)) one)
      | inr different ↦ subst (Q p) (sym (get_or-set_other some place p _ empty different)) (others p)
    ]

    more_within : AreWithin some sets → AreWithin more sets
    more_within part =
        let follows = is_subset_trans _ _ _ (monotone.grows some sets part place) (are.closed place (subst (λ n. place < n) part.count here)) in
        record {
          count = length-set some place _ ∙ part.count;
          each = by_place (λ p u. is_subset u (set_at sets p) ≡ true) (both_inside _ _ _ (part.each place) follows) part.each;
        }

    start_within : AreWithin start some → AreWithin start more
    start_within part = record {
      count = part.count ∙ sym (length-set some place _);
      each = by_place (λ p u. is_subset (set_at start p) u ≡ true) (is_subset_trans _ _ _ (part.each place) (union_left _ _)) part.each;
    }

    still_each : ((p q : ℕ) → contains (set_at some p) q ≡ true → P p q) → (p q : ℕ) → contains (set_at more p) q ≡ true → P p q
    still_each each p q = by_place (λ r u. contains u q ≡ true → P r q)
        (λ one. elim (or_cases _ _ (sym (contains_union _ _ q) ∙ one)) [ inl old ↦ each place q old | inr new ↦ next some each place q new ]) (λ r. each r q) p

  inside_sets : (some : List BitSet) (place : ℕ) → AreWithin some sets → place < length some → is_subset (step some place) (set_at sets place) ≡ true
  inside_sets some place part here = is_subset_trans _ _ _ (monotone.grows some sets part place) (are.closed place (subst (λ n. place < n) part.count here))

  less : (some : List BitSet) (place : ℕ) → AreWithin some sets → place < length some → is_subset (step some place) (set_at some place) ≡ false
      → lacking (union_all sets) (set some place (union (set_at some place) (step some place))) < lacking (union_all sets) some
  less some place part here new = many_lacking_less (union_all sets) some place (step some place) here (is_subset_trans _ _ _ (inside_sets some place part here) (in_all sets place)) new

  rounds : (n : ℕ) (some : List BitSet) → AreWithin start some → AreWithin some sets → lacking (union_all sets) some ≤ n → ((p q : ℕ) → contains (set_at some p) q ≡ true → P p q)
      → (p q : ℕ) → contains (set_at sets p) q ≡ true → P p q
  rounds zero some begun part few each p q one = elim (search_open step some (length some)) [
    | inl closed ↦ each p q (is_subset_contains _ _ ((are.least some begun closed).each p) q one)
    | inr (place, here, new) ↦ let fewer = less some place part here new in absurd (omega arith)
  ]
  rounds (suc n) some begun part few each p q one = elim (search_open step some (length some)) [
    | inl closed ↦ each p q (is_subset_contains _ _ ((are.least some begun closed).each p) q one)
    | inr (place, here, new) ↦
        let fewer = less some place part here new in
        rounds n (set some place (union (set_at some place) (step some place))) (start_within some place here begun) (more_within some place here part) (omega arith) (still_each some place here each) p q one
  ]

  pub many_least_closed_each : (place q : ℕ) → contains (set_at sets place) q ≡ true → P place q
  many_least_closed_each place q one = rounds (lacking (union_all sets) start) start (within_itself start) are.begun (omega arith) first place q one

-- ---- sets that flow

no_member : (q : ℕ) → contains empty q ≡ true → ⊥
no_member q is = grind (arith, members)

pub reachable_before : (rows : ℕ → BitSet) (a b n : ℕ) → contains (rows a) b ≡ true → IsReachable rows (only b) n → IsReachable rows (only a) n
reachable_before rows a b n leads (at_start is) = let same : n ≡ b = grind (arith, members, nat_tests) in from_other a (at_start (grind (arith, members, nat_tests))) (subst (λ m. contains (rows a) m ≡ true) (sym same) leads)
reachable_before rows a b n leads (from_other m before next) = from_other m (reachable_before rows a b m leads before) next

module _ (own sources : ℕ → BitSet) (start sets : List BitSet) (are : AreLeastClosed (gathered own sources) start sets)
    (listed : (place b : ℕ) → place < length sets → contains (sources place) b ≡ true → b < length sets) where
  -- the number arises at the place, or is there at the start
  abbrev IsAt : ℕ → ℕ → Type 0
  IsAt place q = (contains (own place) q ≡ true) ⊎ (contains (set_at start place) q ≡ true)

  -- the number arises, or is at the start, at some place that this place can reach
  abbrev Flows : ℕ → ℕ → Type 0
  Flows place q = (n : ℕ) × IsReachable sources (only place) n × IsAt n q

  here : (place : ℕ) → IsReachable sources (only place) place
  here place = at_start (grind (arith, members, nat_tests))

  first : (place q : ℕ) → contains (set_at start place) q ≡ true → Flows place q
  first place q one = (place, here place, inr one)

  next : (some : List BitSet) → ((place q : ℕ) → contains (set_at some place) q ≡ true → Flows place q) → (place q : ℕ) → contains (gathered own sources some place) q ≡ true → Flows place q
  unfolding gathered
  next some each place q one = elim (or_cases _ _ (sym (contains_union _ _ q) ∙ one)) [
    | inl mine ↦ (place, here place, inl mine)
    | inr taken ↦
        let from = (contains_union_over (set_at some) (sources place) q).0 taken in
        let before = each from.0 q from.2 in
        (before.0, reachable_before sources place from.0 before.0 from.1 before.1, before.2)
  ]

  own_part : (place : ℕ) → is_subset (own place) (gathered own sources sets place) ≡ true
  unfolding gathered
  own_part place = union_left _ _

  taken_part : (place b q : ℕ) → contains (sources place) b ≡ true → contains (set_at sets b) q ≡ true → contains (gathered own sources sets place) q ≡ true
  unfolding gathered
  taken_part place b q leads one = is_subset_contains _ _ (union_right _ _) q ((contains_union_over (set_at sets) (sources place) q).1 (b, leads, one))

  carried : (place n q : ℕ) → place < length sets → IsReachable sources (only place) n → (n < length sets) × (contains (set_at sets n) q ≡ true → contains (set_at sets place) q ≡ true)
  carried place n q within (at_start is) =
      let same : n ≡ place = grind (arith, members, nat_tests) in
      (rw same within, λ one. subst (λ p. contains (set_at sets p) q ≡ true) same one)
  carried place n q within (from_other b before leads) =
      let there = carried place b q within before in
      (listed b n there.0 leads, λ one. there.1 (is_subset_contains _ _ (are.closed b there.0) q (taken_part b n q leads one)))

  arrived : (n q : ℕ) → n < length sets → IsAt n q → contains (set_at sets n) q ≡ true
  arrived n q within is = elim is [
    | inl mine ↦ is_subset_contains _ _ (are.closed n within) q (is_subset_contains _ _ (own_part n) q mine)
    | inr old ↦ is_subset_contains _ _ (are.begun.each n) q old
  ]

  -- a set has exactly what arises, or is at the start, at some place that its own place can reach
  pub gathered_reachable : (place q : ℕ) → place < length sets
      → (contains (set_at sets place) q ≡ true) ↔ ((n : ℕ) × IsReachable sources (only place) n × ((contains (own n) q ≡ true) ⊎ (contains (set_at start n) q ≡ true)))
  gathered_reachable place q within = (
    λ one. many_least_closed_each (gathered own sources) start sets (many_gathered own sources) are Flows first next place q one,
    λ (n, path, is). let there = carried place n q within path in there.1 (arrived n q there.0 is),
  )

  -- the same where each set of the start is empty
  pub gathered_reachable_from_empty : ((n : ℕ) → set_at start n ≡ empty) → (place q : ℕ) → place < length sets
      → (contains (set_at sets place) q ≡ true) ↔ ((n : ℕ) × IsReachable sources (only place) n × (contains (own n) q ≡ true))
  gathered_reachable_from_empty none place q within = (
    λ one. let (n, path, is) = (gathered_reachable place q within).0 one in (n, path, arises n is),
    λ (n, path, is). (gathered_reachable place q within).1 (n, path, inl is),
  )
    where
      arises : (n : ℕ) → IsAt n q → contains (own n) q ≡ true
      arises n is = elim is [ inl mine ↦ mine | inr old ↦ let at = none n in absurd (no_member q (rw at at old)) ]
