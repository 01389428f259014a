-- How many members sets have.
--     ascending_retain, len_retain      the members that pass a test, ascending;  how many they are, as a count
--     ascending_intersection, ascending_difference      the members of s that are in t, and that are not, ascending
--     is_empty_difference, is_empty_intersection      tests of subsets and of disjoint sets
--     len_parts      s has as many members as its parts outside t and inside t together
--     len_union_more, len_union_same      a union has the members of one set and those of the other outside it;  it has
--         as many members as the one exactly if the other is a subset
--     len_union      a union and an intersection together have as many members as the two sets together
--     len_intersection, len_difference, len_subset      a subset has at most as many members
--     len_proper      a proper subset has fewer members
--     len_union_most      a union has at most as many members as the two sets together
--     len_disjoint_union      a union of disjoint sets has as many members as the two sets together
--     len_complement      a subset and its complement have together as many members as the set
--     subset_equality      a subset with as many members is the whole set
--     len_apart      how many members of s are in the union of two disjoint sets
--     len_inserted, len_removed      inserting a number adds one member;  removing a member leaves one less
--     len_zero_iff      a set has 0 members exactly if it is the empty set
--     len_only, len_all_below      a set of one number has one member;  there are n numbers below n
--     kept_count, left_count      the length of the list of the members of s that are in t, and that are not
--     length_ascending      the list of the members is as long as the set
-- The ruleset `counting` has the ones for a tactic.
use Rattle.std.proofs.Common.{◌≡◌, ◌≤◌, ◌<◌, ◌+◌, ◌-◌, ℕ, suc, zero, Bool, true, false, cond, not, ◌&&◌, List, [], ◌∷◌, length, filter, count_by, refl, sym, ap, subst, ◌∙◌, arith, ◌↔◌, ◌==◌}
use Rattle.std.proofs.lemmas.Bool.Decides.{nat_tests, same_from_decides}
use Rattle.std.proofs.lemmas.List.Sums.{length-filter}
use Rattle.enumset_repr.specs.BitSet.{BitSet, is_in, contains, ascending, len, is_empty, empty, insert, only, remove, retain, union, intersection, difference, is_subset, is_disjoint, is_same, below}
use Rattle.std.proofs.lemmas.List.Filters.{length-filter_both}
use Rattle.enumset_repr.specs.Laws.Members.{contains_empty, contains_retain, contains_ascending, contains_below, is_subset_iff, is_disjoint_iff}
use Rattle.enumset_repr.specs.Laws.Algebra.{intersection_comm, intersection_within, intersection_apart, intersection_over_union, union_difference, union_within}
use Rattle.enumset_repr.specs.Rules.Members.{decided}
use Rattle.enumset_repr.specs.Laws.Ascending.{AscendsFrom, ascends_lower, ascending_ascends, ascending_is, len_ascending, len_below, len_empty, len_insert, len_remove, empty_of_len, is_empty_iff}

module _ (p : ℕ → Bool) where
  ascends-filter : (k : ℕ) (xs : List ℕ) → AscendsFrom k xs → AscendsFrom k (filter p xs)
  ascends-filter k [] a = tt
  ascends-filter k (x ∷ xs) a = elim (p x) as (λ b. AscendsFrom k (cond b (x ∷ filter p xs) (filter p xs))) [
    | true ↦ (a.0, ascends-filter (suc x) xs a.1)
    | false ↦ ascends_lower k (suc x) (filter p xs) (omega (arith, a.0)) (ascends-filter (suc x) xs a.1)
  ]

  is_in-filter : (q : ℕ) (xs : List ℕ) → is_in q (filter p xs) ≡ (is_in q xs && p q)
  is_in-filter q [] = refl
  is_in-filter q (x ∷ xs) = grind (arith, nat_tests, is_in-filter q xs)

-- the members that pass a test, ascending
pub ascending_retain : (s : BitSet) (p : ℕ → Bool) → ascending (retain s p) ≡ filter p (ascending s)
ascending_retain s p = ascending_is (retain s p) (filter p (ascending s))
    (ascends-filter p 0 (ascending s) (ascending_ascends s))
    (λ q. grind (arith, contains_retain s p q, contains_ascending s q, is_in-filter p q (ascending s)))

pub ascending_intersection : (s t : BitSet) → ascending (intersection s t) ≡ filter (contains t) (ascending s)
unfolding intersection
ascending_intersection s t = ascending_retain s (contains t)

pub ascending_difference : (s t : BitSet) → ascending (difference s t) ≡ filter (λ b. not (contains t b)) (ascending s)
unfolding difference
ascending_difference s t = ascending_retain s (λ b. not (contains t b))

-- how many members pass a test, as a count over the list of s
pub len_retain : (s : BitSet) (p : ℕ → Bool) → len (retain s p) ≡ count_by p (ascending s)
len_retain s p = len_ascending (retain s p) ∙ ap length (ascending_retain s p) ∙ length-filter p (ascending s)

pub is_empty_difference : (s t : BitSet) → is_empty (difference s t) ≡ is_subset s t
is_empty_difference s t = same_from_decides _ _ (is_empty_iff _) (is_subset_iff s t)

pub is_empty_intersection : (s t : BitSet) → is_empty (intersection s t) ≡ is_disjoint s t
is_empty_intersection s t = same_from_decides _ _ (is_empty_iff _) (is_disjoint_iff s t)

pub len_parts : (s t : BitSet) → len (difference s t) + len (intersection s t) ≡ len s
len_parts s t =
    let out = len_ascending (difference s t) ∙ ap length (ascending_difference s t) in
    let inside = len_ascending (intersection s t) ∙ ap length (ascending_intersection s t) in
    let both = length-filter_both (λ b. not (contains t b)) (contains t) (λ x. grind (arith, nat_tests)) (ascending s) in
    omega (arith, out, inside, both, len_ascending s)

pub len_intersection : (s t : BitSet) → len (intersection s t) ≤ len s
len_intersection s t = omega (arith, len_parts s t)

pub len_intersection_right : (s t : BitSet) → len (intersection s t) ≤ len t
len_intersection_right s t = omega (arith, len_intersection t s, ap len (intersection_comm s t))

pub len_difference : (s t : BitSet) → len (difference s t) ≤ len s
len_difference s t = omega (arith, len_parts s t)

pub len_union : (s t : BitSet) → len (union s t) + len (intersection s t) ≡ len s + len t
len_union s t =
    let parts = len_parts (union s t) t in
    let outside = ap len (union_difference s t) in
    let inside : intersection (union s t) t ≡ t = grind (arith, decided) in
    omega (arith, parts, outside, ap len inside, len_parts s t)

pub len_union_more : (s t : BitSet) → len (union s t) ≡ len s + len (difference t s)
len_union_more s t =
    let outside : intersection t s ≡ intersection s t = intersection_comm t s in
    omega (arith, len_union s t, len_parts t s, ap len outside)

pub len_union_same : (s t : BitSet) → (len (union s t) == len s) ≡ is_subset t s
unfolding is_empty
len_union_same s t =
    let none : (len (difference t s) == 0) ≡ is_subset t s = is_empty_difference t s in
    let more = len_union_more s t in grind (arith, nat_tests)

pub len_subset : (s t : BitSet) → is_subset s t ≡ true → len s ≤ len t
len_subset s t within = omega (arith, ap len (intersection_within s t within), len_intersection_right s t)

pub len_proper : (s t : BitSet) → is_subset s t ≡ true → is_same s t ≡ false → len s < len t
len_proper s t within other =
    let whole : (len t == len s) ≡ is_subset t s = subst (λ u. (len u == len s) ≡ is_subset t s) (union_within s t within) (len_union_same s t) in
    let back : is_subset t s ≡ false = grind (arith, decided) in
    let most = len_subset s t within in grind (arith, nat_tests)

-- a union has at most as many members as both sets together
pub len_union_most : (s t : BitSet) → len (union s t) ≤ len s + len t
len_union_most s t = omega (arith, len_union s t)

-- a union of disjoint sets has as many members as both together
pub len_disjoint_union : (s t : BitSet) → is_disjoint s t ≡ true → len (union s t) ≡ len s + len t
len_disjoint_union s t apart = omega (arith, len_union s t, ap len (intersection_apart s t apart), len_empty)

-- s and its complement within v have together as many members as v
pub len_complement : (v s : BitSet) → is_subset s v ≡ true → len (difference v s) + len s ≡ len v
len_complement v s within = omega (arith, len_parts v s, ap len (intersection_comm v s ∙ intersection_within s v within))

pub len_apart : (s t u : BitSet) → is_disjoint t u ≡ true → len (intersection s (union t u)) ≡ len (intersection s t) + len (intersection s u)
len_apart s t u apart =
    let none : intersection (intersection s t) (intersection s u) ≡ empty = grind (arith, decided) in
    omega (arith, ap len (intersection_over_union s t u), len_union (intersection s t) (intersection s u), ap len none, len_empty)

pub len_zero_iff : (s : BitSet) → (len s ≡ 0) ↔ (s ≡ empty)
len_zero_iff s = (empty_of_len s, λ e. ap len e ∙ len_empty)

pub len_inserted : (s : BitSet) (b : ℕ) → contains s b ≡ false → len (insert s b) ≡ len s + 1
len_inserted s b none = len_insert s b ∙ ap (λ t. cond t (len s) (len s + 1)) none

-- a set of one number has one member
pub len_only : (b : ℕ) → len (only b) ≡ 1
len_only b = omega (arith, len_inserted empty b (contains_empty b), len_empty)

-- there are n numbers below n
pub len_all_below : (n : ℕ) → len (below n) ≡ n
unfolding below
len_all_below zero = len_empty
len_all_below (suc n) = omega (arith, len_inserted (below n) n (grind (arith, nat_tests, contains_below n n)), len_all_below n)

-- a subset with as many members is the whole set
pub subset_equality : (s t : BitSet) → is_subset s t ≡ true → len s ≡ len t → s ≡ t
subset_equality s t within same =
    let none = (len_zero_iff (difference t s)).0 (omega (arith, len_complement t s within, same)) in
    grind (arith, decided)

pub len_some : (s : BitSet) (b : ℕ) → contains s b ≡ true → 1 ≤ len s
len_some s b one = some (len s) refl where
  some : (n : ℕ) → len s ≡ n → 1 ≤ n
  some zero none = let no = ap (λ t. contains t b) (empty_of_len s none) in grind (arith, contains_empty)
  some (suc n) is = omega arith

pub len_removed : (s : BitSet) (b : ℕ) → contains s b ≡ true → len (remove s b) + 1 ≡ len s
len_removed s b one = omega (arith, len_some s b one, len_remove s b ∙ ap (λ t. cond t (len s - 1) (len s)) one)

-- the number of members of s that are in t is the length of the list of these members
pub kept_count : (s t : BitSet) → length (filter (contains t) (ascending s)) ≡ len (intersection s t)
kept_count s t = ap length (sym (ascending_intersection s t)) ∙ sym (len_ascending (intersection s t))

pub left_count : (s t : BitSet) → length (filter (λ b. not (contains t b)) (ascending s)) ≡ len (difference s t)
left_count s t = ap length (sym (ascending_difference s t)) ∙ sym (len_ascending (difference s t))

pub length_ascending : (s : BitSet) → length (ascending s) ≡ len s
length_ascending s = sym (len_ascending s)

-- what it proves: equations of counts, by rewriting
pub ruleset counting = (len_empty, len_parts, len_union, len_intersection, len_intersection_right, len_difference, len_subset, len_proper, len_apart, len_zero_iff, len_inserted, len_removed, len_below, kept_count, left_count, length_ascending)
