-- The model of sets by its equations. They determine each operation, so whoever believes the checker need not read how
-- `BitSet` defines the operations, nor the maps of std that it uses.
--     ascends_at      the list of the members ascends: an earlier number is less than a later one
--     is_subset_by, is_disjoint_by      a subset and disjoint sets, by each number
-- The ruleset `equations` has these, what `contains` returns for each set, that sets with the same members are equal,
-- that a set is the set of its list and has as many members as the list, and what `is_same` and `is_empty` test.
use Rattle.std.proofs.Common.{◌≡◌, ◌<◌, ℕ, suc, zero, true, false, IsTrue, ◌↔◌, List, [], ◌∷◌, length, arith, slice_index}
use Rattle.std.proofs.lemmas.Bool.{or_right}
use Rattle.std.proofs.lemmas.Bool.Decides.{nat_tests}
use Rattle.enumset_repr.specs.BitSet.{BitSet, is_in, contains, ascending, is_subset, is_disjoint}
use Rattle.enumset_repr.specs.Laws.Algebra.{from_list_ascending}
use Rattle.enumset_repr.specs.Laws.Ascending.{AscendsFrom, ascending_ascends, is_in_from, len_ascending, is_empty_iff}
use Rattle.enumset_repr.specs.Laws.Members.{same_set, contains_empty, contains_insert, contains_remove, contains_retain, contains_from_list, contains_insert_each, contains_union, contains_intersection, contains_difference, contains_symmetric_difference, contains_below, contains_low, is_subset_contains, contains_is_subset, is_disjoint_contains, contains_is_disjoint, is_same_iff}

-- the number at a place of a list is in the list
is_in_at : (xs : List ℕ) (i : ℕ) → i < length xs → is_in (slice_index xs i) xs ≡ true
is_in_at [] i within = absurd (omega (arith, within))
is_in_at (x ∷ xs) zero within = grind (arith, nat_tests)
is_in_at (x ∷ xs) (suc i) within = or_right _ _ (is_in_at xs i (omega (arith, within)))

-- a later number of an ascending list is greater
ascends_from_at : (k : ℕ) (xs : List ℕ) → AscendsFrom k xs → (i j : ℕ) → i < j → j < length xs → slice_index xs i < slice_index xs j
ascends_from_at k [] ascends i j before within = absurd (omega (arith, within))
ascends_from_at k (x ∷ xs) ascends i zero before within = absurd (omega (arith, before))
ascends_from_at k (x ∷ xs) ascends zero (suc j) before within = is_in_from (suc x) (slice_index xs j) xs ascends.1 (is_in_at xs j (omega (arith, within)))
ascends_from_at k (x ∷ xs) ascends (suc i) (suc j) before within = ascends_from_at (suc x) xs ascends.1 i j (omega (arith, before)) (omega (arith, within))

-- the list of a set ascends
pub ascends_at : (s : BitSet) (i j : ℕ) → i < j → j < length (ascending s) → slice_index (ascending s) i < slice_index (ascending s) j
ascends_at s i j before within = ascends_from_at 0 (ascending s) (ascending_ascends s) i j before within

-- a subset: each member is a member of the other
pub is_subset_by : (s t : BitSet) → IsTrue (is_subset s t) ↔ ((q : ℕ) → IsTrue (contains s q) → IsTrue (contains t q))
is_subset_by s t = (is_subset_contains s t, contains_is_subset s t)

-- disjoint sets: no member is a member of the other
pub is_disjoint_by : (s t : BitSet) → IsTrue (is_disjoint s t) ↔ ((q : ℕ) → IsTrue (contains s q) → contains t q ≡ false)
is_disjoint_by s t = (is_disjoint_contains s t, contains_is_disjoint s t)

pub ruleset equations = (contains_empty, contains_insert, contains_remove, contains_retain, contains_from_list, contains_insert_each, contains_union, contains_intersection, contains_difference, contains_symmetric_difference, contains_below, contains_low, same_set, from_list_ascending, ascends_at, len_ascending, is_subset_by, is_disjoint_by, is_same_iff, is_empty_iff)
