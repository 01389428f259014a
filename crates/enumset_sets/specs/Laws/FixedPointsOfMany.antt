-- Laws of least fixed points of several sets at once.
--     within_itself, within_trans, within_antisym      lists of sets within themselves;  within a list that is within
--         another;  each within the other
--     many_..      monotone steps for many: a constant, the set in a place, a step of one set after another, unions,
--         intersections, differences and parts, the union over some places, what a place gathers
--     many_reached_first, many_reached_one, many_reached_all      what a loop has reached at first;  with what follows
--         in one place;  once the step adds nothing
--     many_least_closed_unique, many_least_closed_fixed      the least closed sets are unique;  each is what the start
--         has in its place, and what follows there
--     many_lacking_less      fewer numbers are lacking, after a set gets what follows in its place
--     many_pass_first, many_pass_next, many_pass_last      a pass over the places at first;  after one more place;  at
--         its end
--     below_first, below_next, below_whole      the places before one, for a pass in order
--     passed_first, passed_last, passed_smaller      whole passes at first;  after one that changed nothing;  the
--         measure of a loop over them
use Rattle.std.proofs.Common.{◌≡◌, ◌≢◌, ◌<◌, ◌+◌, ℕ, Bool, true, false, ◌||◌, not, List, length, set, refl, sym, subst, ◌∙◌, arith, true≢false, inl, inr, add-one}
use Rattle.std.proofs.lemmas.Bool.{cases_Bool, cases_eq, lt-ltb}
use Rattle.std.proofs.lemmas.Bool.Decides.{nat_tests}
use Rattle.std.proofs.lemmas.List.{ext_get_or, length-set, set-get_or, get_or-set_same, get_or-set_other}
use Rattle.std.proofs.lemmas.List.Sums.{sum_by-set}
use Rattle.enumset_repr.specs.BitSet.{BitSet, contains, len, empty, below, insert, retain, union, intersection, difference, is_subset}
use Rattle.enumset_repr.specs.Laws.Algebra.{is_subset_trans, union_left, union_right}
use Rattle.enumset_repr.specs.Rules.Members.{decided}
use Rattle.enumset_repr.specs.Laws.Members.{contains_below, is_subset_itself}
use Rattle.enumset_sets.specs.Laws.Counts.{fewer_left_than}
use Rattle.enumset_sets.specs.FixedPoints.{IsMonotone, union_over}
use Rattle.enumset_sets.specs.Laws.FixedPoints.{union_over_each, row_in_union_over}
use Rattle.enumset_sets.specs.FixedPointsOfMany.{set_at, AreWithin, IsMonotoneForMany, AreClosed, AreReached, AreLeastClosed, lacking, passes_left, IsPassOverMany, ArePassed, gathered}

-- ---- lists of sets within others

pub within_itself : (sets : List BitSet) → AreWithin sets sets
within_itself sets = record { count = refl; each = λ place. grind (arith, decided) }

pub within_trans : (sets others more : List BitSet) → AreWithin sets others → AreWithin others more → AreWithin sets more
within_trans sets others more one other = record {
  count = one.count ∙ other.count;
  each = λ place. is_subset_trans _ _ _ (one.each place) (other.each place);
}

both_ways : (t u : BitSet) → is_subset t u ≡ true → is_subset u t ≡ true → t ≡ u
both_ways t u one other = grind (arith, decided)

pub within_antisym : (sets others : List BitSet) → AreWithin sets others → AreWithin others sets → sets ≡ others
within_antisym sets others one other = ext_get_or empty sets others one.count (λ place here. both_ways _ _ (one.each place) (other.each place))

-- ---- one place

elsewhere : (sets : List BitSet) (place other : ℕ) (s : BitSet) → other ≢ place → set_at (set sets place s) other ≡ set_at sets other
elsewhere sets place other s different = get_or-set_other sets place other s empty different

-- a property of each place, from that of one place and of the others
module _ (P : ℕ → BitSet → Type 0) (sets : List BitSet) (place : ℕ) (s : BitSet) (here : place < length sets) (one : P place s) (others : (other : ℕ) → P other (set_at sets other)) where
  each_place : (other : ℕ) → P other (set_at (set sets place s) other)
  each_place other = elim (cases_eq other place) [
    | inl same ↦ subst (λ p. P p (set_at (set sets place s) p)) (sym same) (subst (P place) (sym (get_or-set_same sets place s empty here)) one)
    | inr different ↦ subst (P other) (sym (elsewhere sets place other s different)) (others other)
  ]

-- a list is within the list that has more in one place
more_at : (sets : List BitSet) (place : ℕ) (t : BitSet) → place < length sets → AreWithin sets (set sets place (union (set_at sets place) t))
more_at sets place t here = record {
  count = sym (length-set sets place _);
  each = each_place (λ p u. is_subset (set_at sets p) u ≡ true) sets place (union (set_at sets place) t) here (grind (arith, decided)) (λ p. is_subset_itself _);
}

-- ---- monotone steps

pub many_constant : (own : ℕ → BitSet) → IsMonotoneForMany (λ sets place. own place)
many_constant own = record { grows = λ sets others part place. is_subset_itself _ }

pub many_place : (source : ℕ → ℕ) → IsMonotoneForMany (λ sets place. set_at sets (source place))
many_place source = record { grows = λ sets others part place. part.each (source place) }

pub many_after : (f : ℕ → BitSet → BitSet) (step : List BitSet → ℕ → BitSet) → ((place : ℕ) → IsMonotone (f place)) → IsMonotoneForMany step → IsMonotoneForMany (λ sets place. f place (step sets place))
many_after f step outer inner = record { grows = λ sets others part place. (outer place).grows _ _ (inner.grows sets others part place) }

module _ (step later : List BitSet → ℕ → BitSet) (one : IsMonotoneForMany step) (other : IsMonotoneForMany later) where
  pub many_union : IsMonotoneForMany (λ sets place. union (step sets place) (later sets place))
  many_union = record {
    grows = λ sets others part place.
        let left = one.grows sets others part place in
        let right = other.grows sets others part place in
        grind (arith, decided);
  }

  pub many_intersection : IsMonotoneForMany (λ sets place. intersection (step sets place) (later sets place))
  many_intersection = record {
    grows = λ sets others part place.
        let left = one.grows sets others part place in
        let right = other.grows sets others part place in
        grind (arith, decided);
  }

pub many_difference : (step : List BitSet → ℕ → BitSet) (without : ℕ → BitSet) → IsMonotoneForMany step → IsMonotoneForMany (λ sets place. difference (step sets place) (without place))
many_difference step without one = record { grows = λ sets others part place. let left = one.grows sets others part place in grind (arith, decided) }

pub many_retain : (step : List BitSet → ℕ → BitSet) (p : ℕ → ℕ → Bool) → IsMonotoneForMany step → IsMonotoneForMany (λ sets place. retain (step sets place) (p place))
many_retain step p one = record { grows = λ sets others part place. let left = one.grows sets others part place in grind (arith, decided) }

pub many_union_over : (sources : ℕ → BitSet) → IsMonotoneForMany (λ sets place. union_over (set_at sets) (sources place))
many_union_over sources = record {
  grows = λ sets others part place. (union_over_each (set_at sets) (sources place) _).1 (λ b one.
      is_subset_trans _ _ _ (part.each b) (row_in_union_over (set_at others) (sources place) b one));
}

pub many_gathered : (own sources : ℕ → BitSet) → IsMonotoneForMany (gathered own sources)
unfolding gathered
many_gathered own sources = many_union (λ sets place. own place) (λ sets place. union_over (set_at sets) (sources place)) (many_constant own) (many_union_over sources)

-- ---- what is reached

pub many_reached_first : (step : List BitSet → ℕ → BitSet) (start : List BitSet) → AreReached step start start
many_reached_first step start = record { begun = within_itself start; least = λ others begun closed. begun }

both_inside : (t u v : BitSet) → is_subset t v ≡ true → is_subset u v ≡ true → is_subset (union t u) v ≡ true
both_inside t u v one other = grind (arith, decided)

-- sets that are reached are still reached after one of them gets what follows in its place
pub many_reached_one : (step : List BitSet → ℕ → BitSet) (start sets : List BitSet) (place : ℕ) → IsMonotoneForMany step → AreReached step start sets → place < length sets
    → AreReached step start (set sets place (union (set_at sets place) (step sets place)))
many_reached_one step start sets place monotone reached here = record {
  begun = within_trans _ _ _ reached.begun (more_at sets place (step sets place) here);
  least = λ others begun closed.
      let part = reached.least others begun closed in
      let inside = closed place (subst (λ n. place < n) part.count here) in
      let follows = is_subset_trans _ _ _ (monotone.grows sets others part place) inside in
      record {
        count = length-set sets place _ ∙ part.count;
        each = each_place (λ p u. is_subset u (set_at others p) ≡ true) sets place _ here (both_inside _ _ _ (part.each place) follows) part.each;
      };
}

pub many_reached_all : (step : List BitSet → ℕ → BitSet) (start sets : List BitSet) → AreReached step start sets → AreClosed step sets → AreLeastClosed step start sets
many_reached_all step start sets reached closed = record { begun = reached.begun; closed = closed; least = reached.least }

pub many_least_closed_unique : (step : List BitSet → ℕ → BitSet) (start sets others : List BitSet) → AreLeastClosed step start sets → AreLeastClosed step start others → sets ≡ others
many_least_closed_unique step start sets others one other = within_antisym _ _ (one.least _ other.begun other.closed) (other.least _ one.begun one.closed)

module _ (step : List BitSet → ℕ → BitSet) (start sets : List BitSet) (place : ℕ) (monotone : IsMonotoneForMany step) (are : AreLeastClosed step start sets) (here : place < length sets) where
  abbrev fewer : List BitSet
  fewer = set sets place (union (set_at start place) (step sets place))

  inside : is_subset (union (set_at start place) (step sets place)) (set_at sets place) ≡ true
  inside = both_inside _ _ _ (are.begun.each place) (are.closed place here)

  part : AreWithin fewer sets
  part = record {
    count = length-set sets place _;
    each = each_place (λ p u. is_subset u (set_at sets p) ≡ true) sets place _ here inside (λ p. is_subset_itself _);
  }

  begun : AreWithin start fewer
  begun = record {
    count = are.begun.count ∙ sym (length-set sets place _);
    each = each_place (λ p u. is_subset (set_at start p) u ≡ true) sets place _ here (union_left _ _) are.begun.each;
  }

  closed : (p : ℕ) → p < length sets → is_subset (step sets p) (set_at fewer p) ≡ true
  closed p within = elim (cases_eq p place) [
    | inl same ↦ subst (λ r. is_subset (step sets r) (set_at fewer r) ≡ true) (sym same) (rw get_or-set_same (union_right _ _))
    | inr different ↦ rw (elsewhere sets place p _ different) (are.closed p within)
  ]

  least : AreWithin sets fewer
  least = are.least fewer begun (λ p within. is_subset_trans _ _ _ (monotone.grows fewer sets part p) (closed p (subst (λ n. p < n) part.count within)))

  back : is_subset (set_at sets place) (union (set_at start place) (step sets place)) ≡ true
  back = subst (λ u. is_subset (set_at sets place) u ≡ true) (get_or-set_same sets place _ empty here) (least.each place)

  -- each set is what the start has in its place, and what follows there
  pub many_least_closed_fixed : union (set_at start place) (step sets place) ≡ set_at sets place
  many_least_closed_fixed = both_ways _ _ inside back

-- ---- passes

-- fewer numbers are lacking, after a set gets more
pub many_lacking_less : (all : BitSet) (sets : List BitSet) (place : ℕ) (t : BitSet) → place < length sets → is_subset t all ≡ true → is_subset t (set_at sets place) ≡ false
    → lacking all (set sets place (union (set_at sets place) t)) < lacking all sets
many_lacking_less all sets place t here valid new =
    let sums = sum_by-set (λ s. len (difference all s)) sets place (union (set_at sets place) t) empty here in
    let less = fewer_left_than all (set_at sets place) t valid new in
    omega arith

pub many_pass_first : (all : BitSet) (step : List BitSet → ℕ → BitSet) (start now : List BitSet) (done : BitSet) → AreReached step start now → done ≡ empty → IsPassOverMany all step start now now done false
many_pass_first all step start now done reached none = record {
  reached = reached;
  grown = within_itself now;
  seen = λ place done. absurd (grind (arith, decided));
  same = λ is. refl;
  fewer = λ is. absurd (true≢false (sym is));
}

absorbed : (s t : BitSet) → is_subset t s ≡ true → union s t ≡ s
absorbed s t part = grind (arith, decided)

or_parts_false : (a b : Bool) → (a || b) ≡ false → (a ≡ false) × (b ≡ false)
or_parts_false a b is = (grind arith, grind arith)

not_false : (a : Bool) → not a ≡ false → a ≡ true
not_false a is = grind arith

only_new : (a b : Bool) → (a || not b) ≡ true → a ≡ false → b ≡ false
only_new a b is first = grind arith

module _ (all : BitSet) (step : List BitSet → ℕ → BitSet) (start before now : List BitSet) (done now_done : BitSet) (changed : Bool) (place : ℕ)
    (monotone : IsMonotoneForMany step) (pass : IsPassOverMany all step start before now done changed) (here : place < length now)
    (valid : is_subset (step now place) all ≡ true) (is_next : is_subset now_done (insert done place) ≡ true) where
  abbrev next : List BitSet
  next = set now place (union (set_at now place) (step now place))

  unchanged : is_subset (step now place) (set_at now place) ≡ true → now ≡ next
  unchanged none =
      sym (rw (absorbed _ _ none) (set-get_or now place empty))

  -- the set in one more place gets what follows there
  pub many_pass_next : IsPassOverMany all step start before (set now place (union (set_at now place) (step now place))) now_done (changed || not (is_subset (step now place) (set_at now place)))
  many_pass_next = record {
    reached = many_reached_one step start now place monotone pass.reached here;
    grown = within_trans _ _ _ pass.grown (more_at now place (step now place) here);
    seen = seen;
    same = same;
    fewer = fewer;
  }
    where
      now_seen : (other : ℕ) → contains done other ≡ true → is_subset (step before other) (set_at next other) ≡ true
      now_seen other one = is_subset_trans _ _ _ (pass.seen other one) ((more_at now place (step now place) here).each other)

      new_seen : is_subset (step before place) (set_at next place) ≡ true
      new_seen = rw get_or-set_same (is_subset_trans _ _ _ (monotone.grows before now pass.grown place) (union_right _ _))

      seen : (other : ℕ) → contains now_done other ≡ true → is_subset (step before other) (set_at next other) ≡ true
      seen other one = elim (cases_eq other place) [
        | inl same ↦ subst (λ p. is_subset (step before p) (set_at next p) ≡ true) (sym same) new_seen
        | inr different ↦ now_seen other (grind (arith, decided, nat_tests))
      ]

      same : (changed || not (is_subset (step now place) (set_at now place))) ≡ false → before ≡ next
      same is = let parts = or_parts_false _ _ is in pass.same parts.0 ∙ unchanged (not_false _ parts.1)

      before_less : (changed ≡ true) → lacking all next < lacking all before
      before_less is = elim (cases_Bool (is_subset (step now place) (set_at now place))) [
        | inl none ↦ subst (λ sets. lacking all sets < lacking all before) (unchanged none) (pass.fewer is)
        | inr new ↦ let less = many_lacking_less all now place (step now place) here valid new in let old = pass.fewer is in omega arith
      ]

      first_less : changed ≡ false → is_subset (step now place) (set_at now place) ≡ false → lacking all next < lacking all before
      first_less first new = subst (λ sets. lacking all next < lacking all sets) (sym (pass.same first)) (many_lacking_less all now place (step now place) here valid new)

      fewer : (changed || not (is_subset (step now place) (set_at now place))) ≡ true → lacking all next < lacking all before
      fewer is = elim (cases_Bool changed) [
        | inl old ↦ before_less old
        | inr first ↦ first_less first (only_new _ _ is first)
      ]

-- the places below n, which a pass in order has done after n of them
pub below_first : below 0 ≡ empty
unfolding below
below_first = refl

pub below_next : (n : ℕ) → is_subset (below (n + 1)) (insert (below n) n) ≡ true
unfolding below
below_next n = rw add-one (is_subset_itself _)

pub below_whole : (n place : ℕ) → place < n → contains (below n) place ≡ true
below_whole n place here = contains_below n place ∙ lt-ltb place n here

-- what is known after a pass over all places
pub many_pass_last : (all : BitSet) (step : List BitSet → ℕ → BitSet) (start before now : List BitSet) (done : BitSet) (changed : Bool) → IsPassOverMany all step start before now done changed
    → ((place : ℕ) → place < length now → contains done place ≡ true) → ArePassed step start now changed
many_pass_last all step start before now done changed pass whole = record {
  reached = pass.reached;
  closed = λ none place here. subst (λ sets. is_subset (step sets place) (set_at now place) ≡ true) (pass.same none) (pass.seen place (whole place here));
}

pub passed_first : (step : List BitSet → ℕ → BitSet) (start : List BitSet) → ArePassed step start start true
passed_first step start = record { reached = many_reached_first step start; closed = λ is. absurd (true≢false is) }

pub passed_last : (step : List BitSet → ℕ → BitSet) (start now : List BitSet) → ArePassed step start now false → AreLeastClosed step start now
passed_last step start now passed = many_reached_all step start now passed.reached (passed.closed refl)

pub passed_smaller : (all : BitSet) (step : List BitSet → ℕ → BitSet) (start before now : List BitSet) (done : BitSet) (changed : Bool) → IsPassOverMany all step start before now done changed
    → passes_left all now changed < passes_left all before true
passed_smaller all step start before now done changed pass = elim (cases_Bool changed) [
  | inl some ↦ let less = pass.fewer some in rw some (omega arith)
  | inr none ↦ rw (none, pass.same none) (omega arith)
]
