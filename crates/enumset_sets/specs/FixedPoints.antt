-- Least fixed points of steps from sets to sets: what is reached in any number of steps, what follows from what.
--     union_over      the union of the sets that the members of a set lead to
--     leading_to      the numbers of a set that lead to some member of another set
--     IsMonotone      a step that leads from a subset to a subset
--     IsClosed      a set that a step does not leave
--     IsReached      a set that contains a start, and is a subset of each closed set that contains the start
--     IsLeastClosed      the least closed set that contains a start
--     IsWorklist      the members done and those pending, of a search from a start
--     IsPass      what is reached within a pass over numbers, each of which is added if the step leads to it
--     IsReachable      a number of a start, or one to which a reachable number leads
--     LeadsBy      a closure that returns to which elements its argument leads
use Rattle.std.specs.Fn.{Shared}
use Rattle.std.specs.Prelude.{◌≡◌, ℕ, true, not, map}
use Rattle.enumset_repr.specs.BitSet.{BitSet, contains, ascending, retain, union, difference, is_subset, is_disjoint}
use Rattle.enumset_sets.specs.Folds.{union_all}

-- the union of the sets that the members of a set lead to: rows says to which each number leads
unfoldable pub union_over : (ℕ → BitSet) → BitSet → BitSet
union_over rows s = union_all (map rows (ascending s))

-- the numbers of a set that lead to some member of s
unfoldable pub leading_to : BitSet → (ℕ → BitSet) → BitSet → BitSet
leading_to all rows s = retain all (λ b. not (is_disjoint (rows b) s))

-- from a subset of t, the step leads to a subset of `step t`
pub record IsMonotone (step : BitSet → BitSet) : Type 0 where
  pub grows : (s t : BitSet) → is_subset s t ≡ true → is_subset (step s) (step t) ≡ true

-- the set has all to which the step leads from this set
abbrev pub IsClosed : (BitSet → BitSet) → BitSet → Type 0
IsClosed step s = is_subset (step s) s ≡ true

-- the set contains the start, and is a subset of each closed set that contains the start
pub record IsReached (step : BitSet → BitSet) (start s : BitSet) : Type 0 where
  pub begun : is_subset start s ≡ true
  pub least : (t : BitSet) → is_subset start t ≡ true → IsClosed step t → is_subset s t ≡ true

-- the least closed set that contains the start
pub record IsLeastClosed (step : BitSet → BitSet) (start s : BitSet) : Type 0 where
  pub begun : is_subset start s ≡ true
  pub closed : IsClosed step s
  pub least : (t : BitSet) → is_subset start t ≡ true → IsClosed step t → is_subset s t ≡ true

-- the members done and pending are reached, no member is both, and the done ones lead to no others
pub record IsWorklist (rows : ℕ → BitSet) (start done pending : BitSet) : Type 0 where
  pub reached : IsReached (union_over rows) start (union done pending)
  pub apart : is_disjoint done pending ≡ true
  pub followed : is_subset (union_over rows done) (union done pending) ≡ true

-- `now` is reached from the start, contains `before`, and has all to which the step leads from `before`, except for the
-- numbers in `left`
pub record IsPass (step : BitSet → BitSet) (start before now left : BitSet) : Type 0 where
  pub reached : IsReached step start now
  pub grown : is_subset before now ≡ true
  pub seen : is_subset (difference (step before) left) now ≡ true

-- the number is in the start, or a reachable number leads to it
pub data IsReachable (rows : ℕ → BitSet) (start : BitSet) : ℕ → Type 0 where
  at_start : {q : ℕ} → contains start q ≡ true → IsReachable rows start q
  from_other : {q : ℕ} (b : ℕ) → IsReachable rows start b → contains (rows b) q ≡ true → IsReachable rows start q

-- each call of a closure returns what makes the set to which the bit of its argument leads
abbrev pub LeadsBy : {T F O : Type 0} → (T → ℕ) → Shared F (T × Unit {0}) O → (O → BitSet → Type 0) → F → (ℕ → BitSet) → Type 0
LeadsBy {T} {F} {O} bit g into f rows = (t : T) (o : O) (s : BitSet) → g.post f (t, tt) o → into o s → s ≡ rows (bit t)
