-- The algebra of sets: laws of one line each, for proofs about code over sets.
--     union_.., intersection_.., symmetric_difference_.., difference_..      order, grouping, the empty set, a set with
--         itself, one operation over another
--     insert_.., remove_..      inserting or removing twice, in either order, or one after the other
--     complement_..      the difference of a set v and a subset of it
--     is_subset_.., is_disjoint_..      subsets, and sets with no common member
--     from_list_.., insert_each_..      a set built from a list of its members
-- The ruleset `algebra` has the ones for a tactic. A crate above cites it by
-- `#[tactic(auto, using(enumset_repr::specs::Laws::Algebra::algebra))]`.
use Rattle.std.proofs.Common.{◌≡◌, ◌≢◌, ℕ, true, false, cond, List, [], ◌∷◌, refl, sym, ◌∙◌, arith, ne_eqb}
use Rattle.std.proofs.lemmas.Bool.Decides.{nat_tests}
use Rattle.enumset_repr.specs.BitSet.{BitSet, contains, ascending, empty, insert, only, remove, from_list, insert_each, union, intersection, difference, symmetric_difference, is_subset, is_disjoint}
use Rattle.enumset_repr.specs.Laws.Members.{members, subsets, same_set, contains_ascending, contains_from_list, contains_insert_each, union_only, difference_only}
use Rattle.enumset_repr.specs.Rules.Members.{decided}

-- ---- union

pub union_comm : (s t : BitSet) → union s t ≡ union t s
union_comm s t = grind (arith, decided)

pub union_assoc : (s t u : BitSet) → union (union s t) u ≡ union s (union t u)
union_assoc s t u = grind (arith, decided)

pub union_self : (s : BitSet) → union s s ≡ s
union_self s = grind (arith, decided)

pub union_empty : (s : BitSet) → union s empty ≡ s
union_empty s = grind (arith, decided)

pub empty_union : (s : BitSet) → union empty s ≡ s
empty_union s = grind (arith, decided)

pub union_intersection : (s t : BitSet) → union s (intersection s t) ≡ s
union_intersection s t = grind (arith, decided)

-- a union over an intersection;  `intersection_over_union` is the other way round
pub union_over_intersection : (s t u : BitSet) → union s (intersection t u) ≡ intersection (union s t) (union s u)
union_over_intersection s t u = grind (arith, decided)

pub ruleset on_unions = (union_comm, union_self, union_empty, empty_union, union_intersection)

-- ---- intersection

pub intersection_comm : (s t : BitSet) → intersection s t ≡ intersection t s
intersection_comm s t = grind (arith, decided)

pub intersection_assoc : (s t u : BitSet) → intersection (intersection s t) u ≡ intersection s (intersection t u)
intersection_assoc s t u = grind (arith, decided)

pub intersection_self : (s : BitSet) → intersection s s ≡ s
intersection_self s = grind (arith, decided)

pub intersection_empty : (s : BitSet) → intersection s empty ≡ empty
intersection_empty s = grind (arith, decided)

pub empty_intersection : (s : BitSet) → intersection empty s ≡ empty
empty_intersection s = grind (arith, decided)

pub intersection_union : (s t : BitSet) → intersection s (union s t) ≡ s
intersection_union s t = grind (arith, decided)

pub intersection_over_union : (s t u : BitSet) → intersection s (union t u) ≡ union (intersection s t) (intersection s u)
intersection_over_union s t u = grind (arith, decided)

pub ruleset on_intersections = (intersection_comm, intersection_self, intersection_empty, empty_intersection, intersection_union)

-- ---- difference

pub difference_self : (s : BitSet) → difference s s ≡ empty
difference_self s = grind (arith, decided)

pub difference_empty : (s : BitSet) → difference s empty ≡ s
difference_empty s = grind (arith, decided)

pub empty_difference : (s : BitSet) → difference empty s ≡ empty
empty_difference s = grind (arith, decided)

-- De Morgan: a number outside a union is outside both sets, and one outside an intersection is outside at least one
pub difference_union : (v s t : BitSet) → difference v (union s t) ≡ intersection (difference v s) (difference v t)
difference_union v s t = grind (arith, decided)

pub difference_intersection : (v s t : BitSet) → difference v (intersection s t) ≡ union (difference v s) (difference v t)
difference_intersection v s t = grind (arith, decided)

-- adding the members of t and removing them again leaves the members that are not in t
pub union_difference : (s t : BitSet) → difference (union s t) t ≡ difference s t
union_difference s t = grind (arith, decided)

pub difference_then_union : (s t : BitSet) → union (difference s t) t ≡ union s t
difference_then_union s t = grind (arith, decided)

pub difference_twice : (s t : BitSet) → difference (difference s t) t ≡ difference s t
difference_twice s t = grind (arith, decided)

pub ruleset on_differences = (difference_self, difference_empty, empty_difference, difference_union, difference_intersection, union_difference, difference_then_union, difference_twice)

-- ---- symmetric difference

pub symmetric_difference_comm : (s t : BitSet) → symmetric_difference s t ≡ symmetric_difference t s
symmetric_difference_comm s t = grind (arith, decided)

-- three sets, grouped the other way
pub symmetric_difference_assoc : (s t u : BitSet) → symmetric_difference (symmetric_difference s t) u ≡ symmetric_difference s (symmetric_difference t u)
symmetric_difference_assoc s t u = same_set _ _ (λ q. grind (arith, members))

pub symmetric_difference_self : (s : BitSet) → symmetric_difference s s ≡ empty
symmetric_difference_self s = grind (arith, decided)

pub symmetric_difference_empty : (s : BitSet) → symmetric_difference s empty ≡ s
symmetric_difference_empty s = grind (arith, decided)

pub symmetric_difference_twice : (s t : BitSet) → symmetric_difference (symmetric_difference s t) t ≡ s
symmetric_difference_twice s t = grind (arith, decided)

-- an intersection over a symmetric difference
pub intersection_over_symmetric_difference : (s t u : BitSet) → intersection s (symmetric_difference t u) ≡ symmetric_difference (intersection s t) (intersection s u)
intersection_over_symmetric_difference s t u = same_set _ _ (λ q. grind (arith, members))

pub ruleset on_symmetric_differences = (symmetric_difference_comm, symmetric_difference_self, symmetric_difference_empty, symmetric_difference_twice)

-- ---- one number

pub insert_twice : (s : BitSet) (b : ℕ) → insert (insert s b) b ≡ insert s b
insert_twice s b = grind (arith, decided)

pub insert_comm : (s : BitSet) (b c : ℕ) → insert (insert s b) c ≡ insert (insert s c) b
insert_comm s b c = grind (arith, decided)

pub insert_present : (s : BitSet) (b : ℕ) → contains s b ≡ true → insert s b ≡ s
insert_present s b one = grind (arith, decided)

pub remove_twice : (s : BitSet) (b : ℕ) → remove (remove s b) b ≡ remove s b
remove_twice s b = grind (arith, decided)

-- two numbers removed in either order
pub remove_comm : (s : BitSet) (b c : ℕ) → remove (remove s b) c ≡ remove (remove s c) b
remove_comm s b c = grind (arith, decided)

-- one number inserted and another removed, in either order
pub insert_remove_comm : (s : BitSet) (b c : ℕ) → (b ≢ c) → remove (insert s b) c ≡ insert (remove s c) b
insert_remove_comm s b c other = same_set _ _ (λ q. grind (arith, members, nat_tests, ne_eqb b c other))

-- a number that is removed and inserted again is inserted
pub insert_removed : (s : BitSet) (b : ℕ) → insert (remove s b) b ≡ insert s b
insert_removed s b = grind (arith, decided)

-- a number that is inserted and removed again is removed
pub remove_inserted : (s : BitSet) (b : ℕ) → remove (insert s b) b ≡ remove s b
remove_inserted s b = grind (arith, decided)

pub remove_absent : (s : BitSet) (b : ℕ) → contains s b ≡ false → remove s b ≡ s
remove_absent s b none = grind (arith, decided)

-- inserting an absent number and removing it again changes nothing
pub remove_insert : (s : BitSet) (b : ℕ) → contains s b ≡ false → remove (insert s b) b ≡ s
remove_insert s b none = grind (arith, decided)

-- removing a member and inserting it again changes nothing
pub insert_remove : (s : BitSet) (b : ℕ) → contains s b ≡ true → insert (remove s b) b ≡ s
insert_remove s b one = grind (arith, decided)

pub contains_inserted : (s : BitSet) (b : ℕ) → contains (insert s b) b ≡ true
contains_inserted s b = grind (arith, decided)

pub contains_removed : (s : BitSet) (b : ℕ) → contains (remove s b) b ≡ false
contains_removed s b = grind (arith, decided)

pub insert_union : (s t : BitSet) (b : ℕ) → union (insert s b) t ≡ insert (union s t) b
insert_union s t b = grind (arith, decided)

pub union_insert : (s t : BitSet) (b : ℕ) → union s (insert t b) ≡ insert (union s t) b
union_insert s t b = grind (arith, decided)

-- the number is a member afterwards exactly if it was not one before
pub toggled : (s : BitSet) (b : ℕ) → symmetric_difference s (only b) ≡ cond (contains s b) (remove s b) (insert s b)
toggled s b = grind (arith, decided)

pub difference_inserted : (s t : BitSet) (b : ℕ) → contains t b ≡ false → difference (insert s b) t ≡ insert (difference s t) b
difference_inserted s t b none = grind (arith, decided)

pub insert_inside : (s t : BitSet) (b : ℕ) → contains t b ≡ true → intersection (insert s b) t ≡ insert (intersection s t) b
insert_inside s t b one = grind (arith, decided)

pub ruleset on_one_number = (contains_inserted, contains_removed, insert_twice, insert_present, remove_twice, remove_absent, remove_insert, insert_remove, union_only, difference_only)

-- ---- the complement of a set within a set v

pub complement_twice : (v s : BitSet) → is_subset s v ≡ true → difference v (difference v s) ≡ s
complement_twice v s within = grind (arith, decided)

pub complement_union : (v s : BitSet) → is_subset s v ≡ true → union s (difference v s) ≡ v
complement_union v s within = grind (arith, decided)

pub complement_intersection : (v s : BitSet) → intersection s (difference v s) ≡ empty
complement_intersection v s = grind (arith, decided)

pub complement_apart : (v s : BitSet) → is_disjoint s (difference v s) ≡ true
complement_apart v s = grind (arith, decided)

pub ruleset on_complements = (complement_twice, complement_union, complement_intersection, complement_apart)

-- ---- sets with no common member

pub is_disjoint_empty : (s : BitSet) → is_disjoint s empty ≡ true
is_disjoint_empty s = grind (arith, decided)

pub is_disjoint_difference : (s t : BitSet) → is_disjoint (difference s t) t ≡ true
is_disjoint_difference s t = grind (arith, decided)

-- ---- subsets

pub is_subset_trans : (s t u : BitSet) → is_subset s t ≡ true → is_subset t u ≡ true → is_subset s u ≡ true
is_subset_trans s t u first second = grind (arith, decided)

pub union_left : (s t : BitSet) → is_subset s (union s t) ≡ true
union_left s t = grind (arith, decided)

pub union_right : (s t : BitSet) → is_subset t (union s t) ≡ true
union_right s t = grind (arith, decided)

pub intersection_left : (s t : BitSet) → is_subset (intersection s t) s ≡ true
intersection_left s t = grind (arith, decided)

pub intersection_right : (s t : BitSet) → is_subset (intersection s t) t ≡ true
intersection_right s t = grind (arith, decided)

pub difference_left : (s t : BitSet) → is_subset (difference s t) s ≡ true
difference_left s t = grind (arith, decided)

pub insert_grows : (s : BitSet) (b : ℕ) → is_subset s (insert s b) ≡ true
insert_grows s b = grind (arith, decided)

pub remove_shrinks : (s : BitSet) (b : ℕ) → is_subset (remove s b) s ≡ true
remove_shrinks s b = grind (arith, decided)

pub union_within : (s t : BitSet) → is_subset s t ≡ true → union s t ≡ t
union_within s t within = grind (arith, decided)

pub intersection_within : (s t : BitSet) → is_subset s t ≡ true → intersection s t ≡ s
intersection_within s t within = grind (arith, decided)

pub difference_within : (s t : BitSet) → is_subset s t ≡ true → difference s t ≡ empty
difference_within s t within = grind (arith, decided)

pub intersection_difference : (s t v : BitSet) → is_subset s v ≡ true → intersection s (difference v t) ≡ difference s t
intersection_difference s t v within = grind (arith, decided)

pub symmetric_difference_within : (s t : BitSet) → is_subset s t ≡ true → symmetric_difference s t ≡ difference t s
symmetric_difference_within s t within = grind (arith, decided)

pub difference_none : (s t : BitSet) → difference s t ≡ empty → is_subset s t ≡ true
difference_none s t none = grind (arith, decided)

pub intersection_apart : (s t : BitSet) → is_disjoint s t ≡ true → intersection s t ≡ empty
intersection_apart s t apart = grind (arith, decided)

pub difference_apart : (s t : BitSet) → is_disjoint s t ≡ true → difference s t ≡ s
difference_apart s t apart = grind (arith, decided)

pub ruleset on_subsets = (is_disjoint_empty, is_disjoint_difference, union_left, union_right, intersection_left, intersection_right, difference_left, insert_grows, remove_shrinks, union_within, intersection_within, difference_within, intersection_apart, difference_apart)

-- ---- a set from a list of its members

pub from_list_ascending : (s : BitSet) → from_list (ascending s) ≡ s
from_list_ascending s = same_set _ _ (λ q. contains_from_list (ascending s) q ∙ sym (contains_ascending s q))

pub insert_each_ascending : (s : BitSet) → insert_each empty (ascending s) ≡ s
unfolding union
insert_each_ascending s = empty_union s

-- a set with the members of another inserted one by one
pub insert_each_union : (s t : BitSet) → insert_each s (ascending t) ≡ union s t
unfolding union
insert_each_union s t = refl

-- a step of a loop that inserts the numbers of a list in turn: the step inserts the first and leaves the others
pub insert_each_insert : (s : BitSet) (b : ℕ) (bs : List ℕ) → insert_each (insert s b) bs ≡ insert_each s (b ∷ bs)
insert_each_insert s b bs = same_set _ _ (λ q. grind (arith, members, contains_insert_each))

pub insert_each_none : (s : BitSet) → insert_each s [] ≡ s
unfolding insert_each
insert_each_none s = refl

pub ruleset on_lists = (from_list_ascending, insert_each_ascending, insert_each_union, insert_each_insert, insert_each_none)

-- What a proof about code over sets needs: the laws of `contains` and of subsets, and the rulesets above.
-- what it proves: equations of sets, by rewriting
pub ruleset algebra = (members, subsets, on_unions, on_intersections, on_differences, on_symmetric_differences, on_one_number, on_complements, on_subsets, on_lists)
