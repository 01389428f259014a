-- What the calls of a closure for the items of a set returned. `call t b` says that a call for t returns b, and
-- `Has t q` that the item t has the bit q. The items of an `EnumSet` are elements, of which `bit` gives the bits.
--     left      the set of the bits that an iterator has left
--     GivesAt      there is an item with a bit, and a call for it returns b
--     EachGivesAt, EachGives      for each member there is an item with this bit, and a call for it returns b;  the
--         same of elements
--     OneGivesAt, OneGives      there is a member, an item with this bit, and a call for it that returns b;  the same
--         of elements
--     SelectsAt, Selects      the second set has the members of the first for which a call returns true;  the same of
--         elements
--     steps, steps_back      the steps of an iterator over elements;  the same from the back
--     AllCalls, AnyCalls, FindCalls, PositionCalls      the calls that `all` and its like make, as std states them, of
--         an iterator with these steps. `rfind` makes the calls of `find`, by steps from the back
--     FilterCounts, FilterCollects      the items that `count` and `collect` after a filter take
--     FilterRuns      which run of a set's iterator stands behind each run of a filter
--     IsLenOf      a number is how many members a set has, and each set with the same members
use Rattle.std.specs.Prelude.{◌≡◌, ℕ, Bool, true, IsTrue, List, Option, Result, IfOk, length}
use Rattle.std.specs.Fn.{Mut}
use Rattle.std.specs.Iterator.{ChecksAll, ChecksAny, FindsItem, FindsPosition, Drains, DrainsIf, YieldsLastBy}
use Rattle.std.specs.Iterator.Adapters.{filter_steps}
use Rattle.std.specs.Iterator.Runs.{EachRunFrom, SomeRun, IsFilterRun}
use Rattle.std.specs.declared.iter.Filter.{Filter}
use denote.Ref.{Bor}
use Rattle.enumset_repr.specs.Asks.{IterView, BoundsAsks}
use Rattle.enumset_repr.specs.BitSet.{BitSet, contains, from_list, is_subset, len}
use Rattle.enumset_sets.specs.Laws.Iterators.{steps_by}

-- the bits that an iterator has left, by a name of their own: a search does not look for numbers in their list
unfoldable pub left : IterView → BitSet
left i = from_list i.items

abbrev pub GivesAt : {A : Type 0} → (A → ℕ → Type 0) → (A → Bool → Type 0) → ℕ → Bool → Type 0
GivesAt {A} Has call q b = (t : A) × Has t q × call t b

abbrev pub EachGivesAt : {A : Type 0} → (A → ℕ → Type 0) → (A → Bool → Type 0) → BitSet → Bool → Type 0
EachGivesAt Has call s b = (q : ℕ) → contains s q ≡ true → GivesAt Has call q b

abbrev pub OneGivesAt : {A : Type 0} → (A → ℕ → Type 0) → (A → Bool → Type 0) → BitSet → Bool → Type 0
OneGivesAt {A} Has call s b = (q : ℕ) × (contains s q ≡ true) × (t : A) × Has t q × call t b

abbrev pub SelectsAt : {A : Type 0} → (A → ℕ → Type 0) → (A → Bool → Type 0) → BitSet → BitSet → Type 0
SelectsAt Has call s u = IsTrue (is_subset u s) × ((q : ℕ) → contains s q ≡ true → GivesAt Has call q (contains u q))

abbrev pub EachGives : {T : Type 0} → (T → ℕ) → (T → Bool → Type 0) → BitSet → Bool → Type 0
EachGives bit call s b = EachGivesAt (λ t q. bit t ≡ q) call s b

abbrev pub OneGives : {T : Type 0} → (T → ℕ) → (T → Bool → Type 0) → BitSet → Bool → Type 0
OneGives bit call s b = OneGivesAt (λ t q. bit t ≡ q) call s b

abbrev pub Selects : {T : Type 0} → (T → ℕ) → (T → Bool → Type 0) → BitSet → BitSet → Type 0
Selects bit call s u = SelectsAt (λ t q. bit t ≡ q) call s u

abbrev pub IsLenOf : BitSet → ℕ → Type 0
IsLenOf u n = (s : BitSet) → ((q : ℕ) → contains s q ≡ contains u q) → n ≡ len s

-- ---- the calls one by one, of which a search need not know

-- the steps of an iterator over elements, of which `bit` gives the bits
abbrev pub steps : {T : Type 0} → (T → ℕ) → IterView → Option T → IterView → Type 0
steps bit = steps_by bit (λ bits. bits)

-- the same from the back
abbrev pub steps_back : {T : Type 0} → (T → ℕ) → IterView → Option T → IterView → Type 0
steps_back bit i r j = YieldsLastBy bit (λ (k : IterView). k.items) i r j × BoundsAsks i.asks i.span r j.asks j.span

module _ {A F : Type 0} (Steps : IterView → Option A → IterView → Type 0) (g : Mut F (A × Unit {0}) Bool) (i : IterView) (f : F) where
  unfoldable pub AllCalls : Bool → IterView → Type 0
  AllCalls r j = ChecksAll Steps g i f r j

  unfoldable pub AnyCalls : Bool → IterView → Type 0
  AnyCalls r j = ChecksAny Steps g i f r j

  unfoldable pub PositionCalls : Option ℕ → IterView → Type 0
  PositionCalls r j = FindsPosition Steps g i f r j

module _ {A F : Type 0} (Steps : IterView → Option A → IterView → Type 0) (g : Mut F (Bor A × Unit {0}) Bool) where
  unfoldable pub FindCalls : IterView → F → Option A → IterView → Type 0
  FindCalls i f r j = FindsItem Steps g i f r j

  unfoldable pub FilterCounts : Filter IterView F → ℕ → Type 0
  FilterCounts s n = (ts : List A) × Drains (filter_steps Steps g) s ts × (n ≡ length ts)

  unfoldable pub FilterCollects : {B E : Type 0} → (B → Type 0) → (List A → B → Type 0) → Filter IterView F → Result B E → Type 0
  FilterCollects IsComplete Gives s r = IfOk r (λ v. (ts : List A) × DrainsIf (filter_steps Steps g) (IsComplete v) s ts × Gives ts v)

  unfoldable pub FilterRuns : IterView → F → Filter IterView F → Type 0
  FilterRuns i f s = EachRunFrom (filter_steps Steps g) s (λ u. SomeRun Steps i (λ q. IsFilterRun u q g f))
