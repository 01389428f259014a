-- The laws of fixed points as a user's proof cites them, over any sets and any step.
--     .._uses      each law that no other proof cites once, by subject
use Rattle.std.proofs.Common.{◌≡◌, ◌<◌, ◌↔◌, ℕ, Bool, true, false, ◌&&◌, ◌==◌, List, length, set}
use Rattle.std.specs.List.{list_all, list_any, range_with_len}
use denote.Enum.Declared.{Declared, rowss}
use Rattle.enumset.specs.Sets.{BitSet, contains, is_subset, is_same, union, intersection, difference, insert, retain, empty, below, len, ascending, only, from_list, valid_bits, in_place}
use Rattle.enumset.specs.FixedPoints as fixed
use Rattle.enumset.specs.FixedPoints.{union_over, concluded, IsMonotone, IsClosed, IsReached, IsLeastClosed, IsReachable, gathered, set_at, AreWithin, IsMonotoneForMany, AreClosed, AreReached, AreLeastClosed, lacking, passes_left, IsPassOverMany, ArePassed}

-- ---- unions over the members of a set

pub union_over_uses : (rows : ℕ → BitSet) (s t : BitSet) (b q : ℕ) → (is_subset (union_over rows s) t ≡ list_all (λ c. is_subset (rows c) t) (ascending s))
    × ((is_subset (union_over rows s) t ≡ true) ↔ ((c : ℕ) → contains s c ≡ true → is_subset (rows c) t ≡ true)) × (contains s b ≡ true → is_subset (rows b) (union_over rows s) ≡ true)
    × ((contains (union_over rows s) q ≡ true) ↔ ((c : ℕ) × (contains s c ≡ true) × (contains (rows c) q ≡ true))) × (union_over rows (insert s b) ≡ union (union_over rows s) (rows b))
union_over_uses rows s t b q = (
  fixed.union_over_is_subset rows s t,
  fixed.union_over_each rows s t,
  fixed.row_in_union_over rows s b,
  fixed.contains_union_over rows s q,
  fixed.union_over_insert rows s b,
)

-- ---- one set

-- a step of every kind that has a law is monotone
pub monotone_uses : (f g : BitSet → BitSet) (u : BitSet) (p : ℕ → Bool) → IsMonotone f → IsMonotone g → IsMonotone (λ s. union (difference (f (g s)) u) (intersection (retain (g s) p) (union u s)))
monotone_uses f g u p one other =
    fixed.monotone_union (λ s. difference (f (g s)) u) (λ s. intersection (retain (g s) p) (union u s))
    (fixed.monotone_difference (λ s. f (g s)) u (fixed.monotone_after f g one other))
    (fixed.monotone_intersection (λ s. retain (g s) p) (λ s. union u s)
    (fixed.monotone_retain g p other)
    (fixed.monotone_union (λ s. u) (λ s. s) (fixed.monotone_constant u) fixed.monotone_itself))

module _ (step : BitSet → BitSet) (start s : BitSet) (monotone : IsMonotone step) where
  pub reached_uses : (t : BitSet) (b : ℕ) → IsReached step start s → is_subset t (step s) ≡ true → contains (step s) b ≡ true → IsReached step start (union s t) × IsReached step start (insert s b)
  reached_uses t b reached part one = (fixed.reached_part step start s monotone reached t part, fixed.reached_one step start s monotone reached b one)

  pub least_closed_uses : (t : BitSet) → IsReached step start s → IsClosed step s → IsLeastClosed step start t → (s ≡ t) × (union start (step t) ≡ t) × IsReached step start t
  least_closed_uses t reached closed least = (
    fixed.least_closed_unique step start s t (fixed.reached_all step start s reached closed) least,
    fixed.least_closed_fixed step start t monotone least,
    fixed.least_closed_reached step start t least,
  )

  pub each_use : (P : ℕ → Type 0) → IsLeastClosed step start s → ((q : ℕ) → contains start q ≡ true → P q)
      → ((t : BitSet) → ((q : ℕ) → contains t q ≡ true → P q) → (q : ℕ) → contains (step t) q ≡ true → P q) → (q : ℕ) → contains s q ≡ true → P q
  each_use P least first next = fixed.least_closed_each step start s monotone least P first next

pub round_uses : (step : BitSet → BitSet) (start s t all : BitSet) → IsReached step start s → is_subset t all ≡ true
    → ((len (union s (step s)) == len s) ≡ true → IsLeastClosed step start (union s (step s))) × ((len (union s t) == len s) ≡ false → len (difference all (union s t)) < len (difference all s))
round_uses step start s t all reached valid = (fixed.round_last_len step start s reached, fixed.round_smaller_len all s t valid)

pub concluded_uses : (rules : List (ℕ × BitSet)) (s : BitSet) (q : ℕ) → (contains (concluded rules s) q ≡ list_any (λ rule. (q == rule.0) && is_subset rule.1 s) rules)
    × (union empty (concluded rules s) ≡ concluded rules s)
concluded_uses rules s q = (fixed.concluded_by rules s q, fixed.concluded_first rules s)

-- ---- several sets at once

pub within_uses : (sets others more : List BitSet) → AreWithin sets others → AreWithin others more → AreWithin more sets → AreWithin sets sets × (sets ≡ more)
within_uses sets others more one other back = (fixed.within_itself sets, fixed.within_antisym sets more (fixed.within_trans sets others more one other) back)

pub many_monotone_uses : (own sources : ℕ → BitSet) (source : ℕ → ℕ) (f : ℕ → BitSet → BitSet) (p : ℕ → ℕ → Bool) → ((place : ℕ) → IsMonotone (f place))
    → IsMonotoneForMany (λ sets place. union (f place (set_at sets (source place))) (difference (retain (intersection (own place) (union_over (set_at sets) (sources place))) (p place)) (own place)))
many_monotone_uses own sources source f p each =
    fixed.many_union (λ sets place. f place (set_at sets (source place))) (λ sets place. difference (retain (intersection (own place) (union_over (set_at sets) (sources place))) (p place)) (own place))
    (fixed.many_after f (λ sets place. set_at sets (source place)) each (fixed.many_place source))
    (fixed.many_difference (λ sets place. retain (intersection (own place) (union_over (set_at sets) (sources place))) (p place)) own
    (fixed.many_retain (λ sets place. intersection (own place) (union_over (set_at sets) (sources place))) p
    (fixed.many_intersection (λ sets place. own place) (λ sets place. union_over (set_at sets) (sources place))
    (fixed.many_constant own)
    (fixed.many_union_over sources))))

module _ (step : List BitSet → ℕ → BitSet) (start sets : List BitSet) (place : ℕ) (monotone : IsMonotoneForMany step) (here : place < length sets) where
  pub many_reached_uses : AreReached step start sets → AreReached step start start × AreReached step start (set sets place (union (set_at sets place) (step sets place)))
  many_reached_uses reached = (fixed.many_reached_first step start, fixed.many_reached_one step start sets place monotone reached here)

  pub many_least_closed_uses : (others : List BitSet) → AreReached step start others → AreClosed step others → AreLeastClosed step start sets → (others ≡ sets) × (union (set_at start place) (step sets place) ≡ set_at sets place)
  many_least_closed_uses others reached closed least = (
    fixed.many_least_closed_unique step start others sets (fixed.many_reached_all step start others reached closed) least,
    fixed.many_least_closed_fixed step start sets place monotone least here,
  )

  pub many_lacking_use : (all t : BitSet) → is_subset t all ≡ true → is_subset t (set_at sets place) ≡ false → lacking all (set sets place (union (set_at sets place) t)) < lacking all sets
  many_lacking_use all t valid new = fixed.many_lacking_less all sets place t here valid new

pub flow_uses : (own sources : ℕ → BitSet) (start sets : List BitSet) (place q : ℕ) → AreLeastClosed (gathered own sources) start sets → ((p b : ℕ) → p < length sets → contains (sources p) b ≡ true → b < length sets)
    → ((n : ℕ) → set_at start n ≡ empty) → place < length sets → (contains (set_at sets place) q ≡ true) ↔ ((n : ℕ) × IsReachable sources (only place) n × (contains (own n) q ≡ true))
flow_uses own sources start sets place q least listed none here = fixed.gathered_reachable_from_empty own sources start sets least listed none place q here

pub passed_uses : (all : BitSet) (step : List BitSet → ℕ → BitSet) (start before now : List BitSet) (done : BitSet) (changed : Bool)
    → (ArePassed step start now false → AreLeastClosed step start now) × (IsPassOverMany all step start before now done changed → passes_left all now changed < passes_left all before true)
passed_uses all step start before now done changed = (fixed.passed_last step start now, fixed.passed_smaller all step start before now done changed)

pub place_uses : (D : Declared) (n : ℕ) → (valid_bits (in_place D) ≡ below (length (rowss D.parts))) × (from_list (range_with_len 0 n) ≡ below n)
place_uses D n = (fixed.valid_in_place D, fixed.range_below n)
