-- Least fixed points of several sets at once, in the places of a list. A step says what follows in each place from all
-- sets of the list.
--     set_at      the set in a place, or the empty set past the end of the list
--     AreWithin      as many sets as another list has, each a subset of the one in its place there
--     IsMonotoneForMany      a step by which subsets follow from subsets
--     AreClosed      sets that a step does not leave
--     AreReached      sets that contain those of a start, and are within all closed sets that contain these
--     AreLeastClosed      the least closed sets that contain those of a start
--     lacking      how many numbers of a given set the sets lack, added up over all places
--     passes_left      a number that falls with each pass, while a pass changes something
--     IsPassOverMany      what is reached within a pass over the places, of which some are done
--     ArePassed      what is reached by whole passes, and closed once a pass changes nothing
--     gathered      what follows in a place: a set of its own, and the sets in the places from which it takes
use Rattle.std.specs.Prelude.{◌≡◌, ◌<◌, ◌+◌, ◌*◌, ℕ, Bool, true, false, if◌then◌else◌, List, length, slice_index_or}
use Rattle.std.specs.List.{sum_by}
use Rattle.enumset_repr.specs.BitSet.{BitSet, contains, len, empty, union, difference, is_subset}
use Rattle.enumset_sets.specs.FixedPoints.{union_over}

-- the set in a place, or the empty set past the end of the list
abbrev pub set_at : List BitSet → ℕ → BitSet
set_at sets place = slice_index_or sets place empty

-- both lists have as many sets, and each of the first is a subset of the one in its place in the second
pub record AreWithin (sets others : List BitSet) : Type 0 where
  pub count : length sets ≡ length others
  pub each : (place : ℕ) → is_subset (set_at sets place) (set_at others place) ≡ true

-- what follows in a place from subsets is a subset of what follows there from the sets
pub record IsMonotoneForMany (step : List BitSet → ℕ → BitSet) : Type 0 where
  pub grows : (sets others : List BitSet) → AreWithin sets others → (place : ℕ) → is_subset (step sets place) (step others place) ≡ true

-- each set has all that follows in its place
abbrev pub AreClosed : (List BitSet → ℕ → BitSet) → List BitSet → Type 0
AreClosed step sets = (place : ℕ) → place < length sets → is_subset (step sets place) (set_at sets place) ≡ true

-- the sets contain those of the start, and are within all closed sets that contain those of the start
pub record AreReached (step : List BitSet → ℕ → BitSet) (start sets : List BitSet) : Type 0 where
  pub begun : AreWithin start sets
  pub least : (others : List BitSet) → AreWithin start others → AreClosed step others → AreWithin sets others

-- the least closed sets that contain those of the start
pub record AreLeastClosed (step : List BitSet → ℕ → BitSet) (start sets : List BitSet) : Type 0 where
  pub begun : AreWithin start sets
  pub closed : AreClosed step sets
  pub least : (others : List BitSet) → AreWithin start others → AreClosed step others → AreWithin sets others

-- how many numbers of `all` the sets lack, over all places
abbrev pub lacking : BitSet → List BitSet → ℕ
lacking all sets = sum_by (λ s. len (difference all s)) sets

-- the measure of a loop over passes: it falls with each pass, the last one too, which changes nothing
abbrev pub passes_left : BitSet → List BitSet → Bool → ℕ
passes_left all sets changed = 2 * lacking all sets + (if changed then 1 else 0)

-- a pass from `before`, of which the places in `done` are done: `now` is reached, its sets have all that followed in
-- these places before the pass, and if the pass changed anything, they lack fewer numbers
pub record IsPassOverMany (all : BitSet) (step : List BitSet → ℕ → BitSet) (start before now : List BitSet) (done : BitSet) (changed : Bool) : Type 0 where
  pub reached : AreReached step start now
  pub grown : AreWithin before now
  pub seen : (place : ℕ) → contains done place ≡ true → is_subset (step before place) (set_at now place) ≡ true
  pub same : changed ≡ false → before ≡ now
  pub fewer : changed ≡ true → lacking all now < lacking all before

-- the sets in `now` are reached, and they are closed if the last pass changed nothing
pub record ArePassed (step : List BitSet → ℕ → BitSet) (start now : List BitSet) (changed : Bool) : Type 0 where
  pub reached : AreReached step start now
  pub closed : changed ≡ false → AreClosed step now

-- ---- steps

-- what follows in a place: a set of its own, and the sets in the places from which it takes
unfoldable pub gathered : (ℕ → BitSet) → (ℕ → BitSet) → List BitSet → ℕ → BitSet
gathered own sources sets place = union (own place) (union_over (set_at sets) (sources place))
