-- Laws of least fixed points.
--     union_over_is_subset, union_over_each, row_in_union_over, contains_union_over, union_over_insert      a union
--         over the members of a set: when it is a subset of a set;  that each row is a subset of it;  its
--         members;  with one more number inserted
--     monotone_..      monotone steps: a union over the members, the set itself, a constant, one step after another,
--         unions, intersections, differences and parts of what monotone steps lead to
--     reached_first, reached_part, reached_more, reached_one      what a loop has reached at first;  with a part of
--         what the step leads to;  with all of it;  with one number of it
--     reached_all, reached_last      once the step adds nothing, what is reached is the least closed set
--     least_closed_..      the least closed set is unique;  it is a fixed point of the step with the start added;  what
--         is true of each of its members;  it has exactly the reachable numbers
--     union_over_reachable      the members of a union over the reachable numbers
--     worklist_first, worklist_next, worklist_last, worklist_smaller      a worklist at first;  after one more number
--         is done;  at its end;  then fewer are left
--     pass_first, pass_adds, pass_by, pass_last, pass_smaller      a pass at first;  after a number that is added;
--         after one that is not;  after a pass that added nothing;  fewer are left after one that added something
--     contains_leading_to, leading_to_is_subset      which numbers of a set lead to some member of another;  that they
--         are a subset of the set
--     pending_next, pending_apart      the numbers pending, after one more is done
-- The measure of such a loop falls by `fewer` of `Counts`.
use Rattle.std.proofs.Common.{◌≡◌, ◌↔◌, ◌<◌, ◌≤◌, ℕ, zero, suc, Bool, true, false, ◌&&◌, ◌==◌, not, List, [], ◌∷◌, map, refl, sym, ap, subst, ◌∙◌, arith, true≢false, inl, inr}
use Rattle.std.proofs.lemmas.Bool.{and_parts, false_from_ne_true, or_cases}
use Rattle.std.proofs.lemmas.Bool.Decides.{nat_tests}
use Rattle.std.specs.List.{list_all}
use Rattle.enumset_repr.specs.BitSet.{BitSet, is_in, contains, ascending, len, empty, insert, only, remove, retain, union, intersection, difference, is_subset, is_disjoint}
use Rattle.enumset_repr.specs.Laws.Algebra.{is_subset_trans, contains_inserted, difference_none, union_left, union_right}
use Rattle.enumset_repr.specs.Laws.Counting.{len_zero_iff, len_proper}
use Rattle.enumset_repr.specs.Rules.Members.{decided}
use Rattle.enumset_repr.specs.Laws.Members.{members, same_set, contains_ascending, contains_insert, contains_retain, contains_union, list_all_any, list_all_each, is_subset_contains, contains_is_subset, is_disjoint_contains, contains_is_disjoint}
use Rattle.enumset_sets.specs.Folds.{union_all}
use Rattle.enumset_sets.specs.Laws.Counts.{fewer_left, fewer_left_than}
use Rattle.enumset_sets.specs.Laws.ManySets.{union_all_is_subset}
use Rattle.enumset_sets.specs.FixedPoints.{union_over, leading_to, IsMonotone, IsClosed, IsReached, IsLeastClosed, IsWorklist, IsPass, IsReachable, at_start, from_other}

-- ---- unions over the members of a set

all_of_map : (rows : ℕ → BitSet) (t : BitSet) (bs : List ℕ) → list_all (λ u. is_subset u t) (map rows bs) ≡ list_all (λ b. is_subset (rows b) t) bs
all_of_map rows t [] = refl
all_of_map rows t (b ∷ bs) = ap (λ x. is_subset (rows b) t && x) (all_of_map rows t bs)

-- a union over s is a subset of t exactly if the set of each member of s is
pub union_over_is_subset : (rows : ℕ → BitSet) (s t : BitSet) → is_subset (union_over rows s) t ≡ list_all (λ b. is_subset (rows b) t) (ascending s)
unfolding union_over
union_over_is_subset rows s t = union_all_is_subset (map rows (ascending s)) t ∙ all_of_map rows t (ascending s)

pub union_over_each : (rows : ℕ → BitSet) (s t : BitSet) → (is_subset (union_over rows s) t ≡ true) ↔ ((b : ℕ) → contains s b ≡ true → is_subset (rows b) t ≡ true)
union_over_each rows s t = (
  λ all b one. list_all_any (λ b. is_subset (rows b) t) (ascending s) b (sym (union_over_is_subset rows s t) ∙ all) (sym (contains_ascending s b) ∙ one),
  λ each. union_over_is_subset rows s t ∙ list_all_each (λ b. is_subset (rows b) t) (ascending s) (λ b listed. each b (contains_ascending s b ∙ listed)),
)

pub row_in_union_over : (rows : ℕ → BitSet) (s : BitSet) (b : ℕ) → contains s b ≡ true → is_subset (rows b) (union_over rows s) ≡ true
row_in_union_over rows s b one = (union_over_each rows s (union_over rows s)).0 (contains_is_subset _ _ (λ q is. is)) b one

found_in : (rows : ℕ → BitSet) (q : ℕ) (bs : List ℕ) → contains (union_all (map rows bs)) q ≡ true → (b : ℕ) × (is_in b bs ≡ true) × (contains (rows b) q ≡ true)
unfolding union_all
found_in rows q [] is = absurd (grind (arith, members))
found_in rows q (b ∷ bs) is = elim (or_cases (contains (rows b) q) (contains (union_all (map rows bs)) q) (sym (contains_union (rows b) (union_all (map rows bs)) q) ∙ is)) [
  | inl here ↦ (b, grind (arith, nat_tests), here)
  | inr later ↦ let (c, listed, there) = found_in rows q bs later in (c, grind (arith, nat_tests), there)
]

-- a number is in a union over a set exactly if it is in the set of some member
pub contains_union_over : (rows : ℕ → BitSet) (s : BitSet) (q : ℕ) → (contains (union_over rows s) q ≡ true) ↔ ((b : ℕ) × (contains s b ≡ true) × (contains (rows b) q ≡ true))
unfolding union_over
contains_union_over rows s q = (
  λ is. let one = found_in rows q (ascending s) is in (one.0, contains_ascending s one.0 ∙ one.1, one.2),
  λ (b, one, is). is_subset_contains _ _ (row_in_union_over rows s b one) q is,
)

pub union_over_insert : (rows : ℕ → BitSet) (s : BitSet) (b : ℕ) → union_over rows (insert s b) ≡ union (union_over rows s) (rows b)
union_over_insert rows s b = same_parts into back where
  same_parts : ((c : ℕ) → contains (insert s b) c ≡ true → is_subset (rows c) (union (union_over rows s) (rows b)) ≡ true) → is_subset (union (union_over rows s) (rows b)) (union_over rows (insert s b)) ≡ true → union_over rows (insert s b) ≡ union (union_over rows s) (rows b)
  same_parts each other = let one = (union_over_each rows (insert s b) _).1 each in grind (arith, decided)

  into : (c : ℕ) → contains (insert s b) c ≡ true → is_subset (rows c) (union (union_over rows s) (rows b)) ≡ true
  into c one = elim (or_cases (c == b) (contains s c) (sym (contains_insert s b c) ∙ one)) [
    | inl same ↦ let e : c ≡ b = grind (arith, nat_tests) in rw e (grind (arith, decided))
    | inr old ↦ let row = row_in_union_over rows s c old in grind (arith, decided)
  ]

  back : is_subset (union (union_over rows s) (rows b)) (union_over rows (insert s b)) ≡ true
  back =
      let last = row_in_union_over rows (insert s b) b (contains_inserted s b) in
      let others = (union_over_each rows s (union_over rows (insert s b))).1 (λ c old. row_in_union_over rows (insert s b) c (grind (arith, decided))) in
      grind (arith, decided)

-- ---- monotone steps

pub monotone_union_over : (rows : ℕ → BitSet) → IsMonotone (union_over rows)
monotone_union_over rows = record {
  grows = λ s t part. (union_over_each rows s (union_over rows t)).1 (λ b one. row_in_union_over rows t b (is_subset_contains s t part b one));
}

still_apart : (row s t : BitSet) → is_subset s t ≡ true → is_disjoint row t ≡ true → is_disjoint row s ≡ true
still_apart row s t part apart = contains_is_disjoint row s (λ q one.
    let out = is_disjoint_contains row t apart q one in
    false_from_ne_true _ (λ inside. true≢false (sym (is_subset_contains s t part q inside) ∙ out)))

pub monotone_leading_to : (all : BitSet) (rows : ℕ → BitSet) → IsMonotone (leading_to all rows)
unfolding leading_to
monotone_leading_to all rows = record {
  grows = λ s t part. contains_is_subset _ _ (λ b one.
      let shared : is_disjoint (rows b) s ≡ false = grind (arith, members) in
      let still = shared_more (rows b) s t part shared in
      grind (arith, members));
}
  where
    shared_more : (row s t : BitSet) → is_subset s t ≡ true → is_disjoint row s ≡ false → is_disjoint row t ≡ false
    shared_more row s t part shared = false_from_ne_true _ (λ apart. true≢false (sym (still_apart row s t part apart) ∙ shared))

pub contains_leading_to : (all : BitSet) (rows : ℕ → BitSet) (s : BitSet) (b : ℕ) → contains (leading_to all rows s) b ≡ (contains all b && not (is_disjoint (rows b) s))
unfolding leading_to
contains_leading_to all rows s b = contains_retain all _ b

pub leading_to_is_subset : (all : BitSet) (rows : ℕ → BitSet) (s : BitSet) → is_subset (leading_to all rows s) all ≡ true
leading_to_is_subset all rows s = contains_is_subset _ _ (λ b one. (and_parts _ _ (sym (contains_leading_to all rows s b) ∙ one)).0)

pub monotone_itself : IsMonotone (λ s. s)
monotone_itself = record { grows = λ s t part. part }

pub monotone_constant : (u : BitSet) → IsMonotone (λ s. u)
monotone_constant u = record { grows = λ s t part. grind (arith, decided) }

pub monotone_after : (f g : BitSet → BitSet) → IsMonotone f → IsMonotone g → IsMonotone (λ s. f (g s))
monotone_after f g outer inner = record { grows = λ s t part. outer.grows _ _ (inner.grows s t part) }

pub monotone_union : (f g : BitSet → BitSet) → IsMonotone f → IsMonotone g → IsMonotone (λ s. union (f s) (g s))
monotone_union f g one other = record {
  grows = λ s t part. let left = one.grows s t part in let right = other.grows s t part in grind (arith, decided);
}

pub monotone_intersection : (f g : BitSet → BitSet) → IsMonotone f → IsMonotone g → IsMonotone (λ s. intersection (f s) (g s))
monotone_intersection f g one other = record {
  grows = λ s t part. let left = one.grows s t part in let right = other.grows s t part in grind (arith, decided);
}

pub monotone_difference : (f : BitSet → BitSet) (u : BitSet) → IsMonotone f → IsMonotone (λ s. difference (f s) u)
monotone_difference f u one = record { grows = λ s t part. let left = one.grows s t part in grind (arith, decided) }

pub monotone_retain : (f : BitSet → BitSet) (p : ℕ → Bool) → IsMonotone f → IsMonotone (λ s. retain (f s) p)
monotone_retain f p one = record { grows = λ s t part. let left = one.grows s t part in grind (arith, decided) }

-- ---- what is reached

pub reached_first : (step : BitSet → BitSet) (start : BitSet) → IsReached step start start
reached_first step start = record { begun = grind (arith, decided); least = λ t begun closed. begun }

module _ (step : BitSet → BitSet) (start s : BitSet) (monotone : IsMonotone step) (reached : IsReached step start s) where
  -- a part of what the step leads to is reached too
  pub reached_part : (t : BitSet) → is_subset t (step s) ≡ true → IsReached step start (union s t)
  reached_part t part = record {
    begun = let begun = reached.begun in grind (arith, decided);
    least = λ u begun closed.
        let here = reached.least u begun closed in
        let next = monotone.grows s u here in
        grind (arith, decided);
  }

  pub reached_more : IsReached step start (union s (step s))
  reached_more = reached_part (step s) (grind (arith, decided))

  pub reached_one : (b : ℕ) → contains (step s) b ≡ true → IsReached step start (insert s b)
  reached_one b one = subst (IsReached step start) (grind (arith, decided)) (reached_part (only b) (grind (arith, decided)))

pub reached_all : (step : BitSet → BitSet) (start s : BitSet) → IsReached step start s → IsClosed step s → IsLeastClosed step start s
reached_all step start s reached closed = record { begun = reached.begun; closed = closed; least = reached.least }

-- after a step that adds nothing, what is reached is the least closed set
pub reached_last : (step : BitSet → BitSet) (start s : BitSet) → IsReached step start s → is_subset (step s) s ≡ true → IsLeastClosed step start (union s (step s))
reached_last step start s reached closed = let same : s ≡ union s (step s) = grind (arith, decided) in subst (IsLeastClosed step start) same (reached_all step start s reached closed)

pub least_closed_reached : (step : BitSet → BitSet) (start s : BitSet) → IsLeastClosed step start s → IsReached step start s
least_closed_reached step start s least = record { begun = least.begun; least = least.least }

-- ---- the least closed set

pub least_closed_unique : (step : BitSet → BitSet) (start s t : BitSet) → IsLeastClosed step start s → IsLeastClosed step start t → s ≡ t
least_closed_unique step start s t one other =
    let there = one.least t other.begun other.closed in
    let here = other.least s one.begun one.closed in
    grind (arith, decided)

union_parts : (t u v : BitSet) → is_subset t v ≡ true → is_subset u v ≡ true → is_subset (union t u) v ≡ true
union_parts t u v one other = grind (arith, decided)

both_ways : (t u : BitSet) → is_subset t u ≡ true → is_subset u t ≡ true → t ≡ u
both_ways t u one other = grind (arith, decided)

-- the least closed set is a fixed point of the step with the start added
pub least_closed_fixed : (step : BitSet → BitSet) (start s : BitSet) → IsMonotone step → IsLeastClosed step start s → union start (step s) ≡ s
least_closed_fixed step start s monotone is =
    let inside = union_parts start (step s) s is.begun is.closed in
    let again = is_subset_trans _ _ _ (monotone.grows _ _ inside) (union_right start (step s)) in
    both_ways _ _ inside (is.least _ (union_left start (step s)) again)

-- ---- worklists

pub worklist_first : (rows : ℕ → BitSet) (start : BitSet) → IsWorklist rows start empty start
worklist_first rows start = record {
  reached = subst (IsReached _ _) (grind (arith, decided)) (reached_first (union_over rows) start);
  apart = grind (arith, decided);
  followed = (union_over_each rows empty _).1 (λ b one. absurd (grind (arith, decided)));
}

-- a pending number is done now, and those to which it leads are done or pending
pub worklist_next : (rows : ℕ → BitSet) (start done pending now_done now_pending : BitSet) (b : ℕ) → IsWorklist rows start done pending → contains pending b ≡ true
    → now_done ≡ insert done b → union now_done now_pending ≡ union (union done pending) (rows b) → is_disjoint now_done now_pending ≡ true → IsWorklist rows start now_done now_pending
worklist_next rows start done pending now_done now_pending b list one done_now whole apart = record {
  reached = rw whole (reached_part _ _ _ (monotone_union_over rows) list.reached (rows b) (row_in_union_over rows _ b (grind (arith, decided))));
  apart = apart;
  followed = let followed = list.followed in let row = union_over_insert rows done b in rw (whole, done_now, row) (grind (arith, decided));
}

-- the numbers done and pending, together, after one of the pending ones is done
pub pending_next : (done pending row : BitSet) (b : ℕ) → contains pending b ≡ true → union (insert done b) (union (remove pending b) (difference row (insert done b))) ≡ union (union done pending) row
pending_next done pending row b one = same_set _ _ (λ q. grind (arith, members, nat_tests))

pub pending_apart : (done pending row : BitSet) (b : ℕ) → is_disjoint done pending ≡ true → is_disjoint (insert done b) (union (remove pending b) (difference row (insert done b))) ≡ true
pending_apart done pending row b apart = grind (arith, decided)

-- after one more number is done, fewer numbers are not done
pub worklist_smaller : (rows : ℕ → BitSet) (start done pending all : BitSet) (b : ℕ) → IsWorklist rows start done pending → contains pending b ≡ true → contains all b ≡ true → len (difference all (insert done b)) < len (difference all done)
worklist_smaller rows start done pending all b list one valid =
    let apart = list.apart in
    let new : contains done b ≡ false = grind (arith, decided) in
    fewer_left all done b valid new

pub worklist_last : (rows : ℕ → BitSet) (start done : BitSet) → IsWorklist rows start done empty → IsLeastClosed (union_over rows) start done
worklist_last rows start done list =
    let whole : union done empty ≡ done = grind (arith, decided) in
    reached_all _ _ _ (subst (IsReached _ _) whole list.reached) (subst (λ u. is_subset (union_over rows done) u ≡ true) whole list.followed)

-- ---- passes over numbers

pub pass_first : (step : BitSet → BitSet) (start s all : BitSet) → IsReached step start s → is_subset (step s) all ≡ true → IsPass step start s s all
pass_first step start s all reached within = record { reached = reached; grown = grind (arith, decided); seen = grind (arith, decided) }

module _ (step : BitSet → BitSet) (start before now left rest : BitSet) (b : ℕ) (monotone : IsMonotone step) (pass : IsPass step start before now left) (is_next : left ≡ insert rest b) where
  -- the step leads to the next number, which is added
  pub pass_adds : contains (step now) b ≡ true → IsPass step start before (insert now b) rest
  pass_adds led = record {
    reached = reached_one step start now monotone pass.reached b led;
    grown = let grown = pass.grown in grind (arith, decided);
    seen = let seen = pass.seen in added (step before) seen;
  }
    where
      added : (next : BitSet) → is_subset (difference next left) now ≡ true → is_subset (difference next rest) (insert now b) ≡ true
      added next seen = grind (arith, decided, nat_tests)

  -- the step does not lead to the next number
  pub pass_by : contains (step now) b ≡ false → IsPass step start before now rest
  pass_by not_led = record {
    reached = pass.reached;
    grown = pass.grown;
    seen = same (step before) (step now) pass.seen (monotone.grows before now pass.grown) not_led;
  }
    where
      same : (next later : BitSet) → is_subset (difference next left) now ≡ true → is_subset next later ≡ true → contains later b ≡ false → is_subset (difference next rest) now ≡ true
      same next later seen inside not_led = grind (arith, decided, nat_tests)

-- after a pass that added nothing, what is reached is the least closed set
pub pass_last : (step : BitSet → BitSet) (start before now left : BitSet) → IsPass step start before now left → left ≡ empty → now ≡ before → IsLeastClosed step start now
pass_last step start before now left pass none same =
    let all_seen = closed (step before) pass.seen in
    reached_all step start now pass.reached (subst (λ u. is_subset (step u) now ≡ true) (sym same) all_seen)
  where
    closed : (next : BitSet) → is_subset (difference next left) now ≡ true → is_subset next now ≡ true
    closed next seen = grind (arith, decided)

-- after a pass that added something, fewer numbers are not reached
pub pass_smaller : (all before now : BitSet) → is_subset now all ≡ true → is_subset before now ≡ true → is_subset now before ≡ false → len (difference all now) < len (difference all before)
pass_smaller all before now valid grown new = len_proper _ _ (grind (arith, decided)) (grind (arith, decided))

-- ---- what is true of each member

module _ (step : BitSet → BitSet) (start s : BitSet) (monotone : IsMonotone step) (is : IsLeastClosed step start s) (P : ℕ → Type 0)
    (first : (q : ℕ) → contains start q ≡ true → P q)
    (next : (t : BitSet) → ((q : ℕ) → contains t q ≡ true → P q) → (q : ℕ) → contains (step t) q ≡ true → P q) where
  grown : (t : BitSet) → ((q : ℕ) → contains t q ≡ true → P q) → (q : ℕ) → contains (union t (step t)) q ≡ true → P q
  grown t each q one = elim (or_cases _ _ (sym (contains_union t (step t) q) ∙ one)) [ inl old ↦ each q old | inr new ↦ next t each q new ]

  rounds : (n : ℕ) (t : BitSet) → is_subset start t ≡ true → is_subset t s ≡ true → len (difference s t) ≤ n → ((q : ℕ) → contains t q ≡ true → P q) → (q : ℕ) → contains s q ≡ true → P q
  rounds zero t begun part few each q one =
      let none : is_subset s t ≡ true = difference_none s t ((len_zero_iff _).0 (omega arith)) in
      each q (is_subset_contains s t none q one)
  rounds (suc n) t begun part few each q one = elim (is_subset (step t) t) as (λ b. is_subset (step t) t ≡ b → P q) [
    | true ↦ λ closed. each q (is_subset_contains s t (is.least t begun closed) q one)
    | false ↦ λ more.
        let inside : is_subset (step t) s ≡ true = is_subset_trans _ _ _ (monotone.grows t s part) is.closed in
        let fewer = fewer_left_than s t (step t) inside more in
        rounds n (union t (step t)) (grind (arith, decided)) (grind (arith, decided)) (omega arith) (grown t each) q one
  ] refl

  -- P is true of each member if it is true of each member of the start, and of all to which the step leads from a set
  -- of whose members it is true
  pub least_closed_each : (q : ℕ) → contains s q ≡ true → P q
  least_closed_each q one = rounds (len (difference s start)) start (grind (arith, decided)) is.begun (omega arith) first q one

module _ (rows : ℕ → BitSet) (start s : BitSet) (is : IsLeastClosed (union_over rows) start s) where
  linked : (q : ℕ) → contains s q ≡ true → IsReachable rows start q
  linked q one = least_closed_each (union_over rows) start s (monotone_union_over rows) is (IsReachable rows start) (λ p first. at_start first)
      (λ t each p next. let from = (contains_union_over rows t p).0 next in from_other from.0 (each from.0 from.1) from.2) q one

  member : (q : ℕ) → IsReachable rows start q → contains s q ≡ true
  member q (at_start first) = is_subset_contains start s is.begun q first
  member q (from_other b before next) = is_subset_contains (rows b) s ((union_over_each rows s s).0 is.closed b (member b before)) q next

  -- the least closed set has exactly the numbers that are reachable
  pub least_closed_reachable : (q : ℕ) → (contains s q ≡ true) ↔ IsReachable rows start q
  least_closed_reachable q = (linked q, member q)

-- a number is in a union over the reachable numbers exactly if it is in the set of one of them
pub union_over_reachable : (rows others : ℕ → BitSet) (start s : BitSet) → IsLeastClosed (union_over rows) start s
    → (q : ℕ) → (contains (union_over others s) q ≡ true) ↔ ((b : ℕ) × IsReachable rows start b × (contains (others b) q ≡ true))
union_over_reachable rows others start s is q = (
  λ one. let (b, inside, has) = (contains_union_over others s q).0 one in (b, (least_closed_reachable rows start s is b).0 inside, has),
  λ (b, reachable, has). (contains_union_over others s q).1 (b, (least_closed_reachable rows start s is b).1 reachable, has),
)
