-- Laws of one set inside and outside another, besides those of `Algebra`.
--     difference_insert, difference_remove      inserting or removing a number of t does not change s outside t
--     intersection_insert, intersection_remove      inserting or removing a number outside t does not change s inside t
--     difference_insert_all, difference_remove_all      inserting or removing a subset of t does not change s outside t
--     difference_parts, symmetric_parts      the parts of s outside t and inside t;  a symmetric difference
--     difference_shared      s without the members that it shares with t
--     difference_over_..      what is left of a union, and of an intersection, outside a set
--     is_subset_union      a union is a subset exactly if both sets are
--     len_symmetric_difference      how many members are in exactly one of two sets
--     complement_..      the difference of a set v and a set with members outside v
use Rattle.std.proofs.Common.{◌≡◌, ◌+◌, ◌*◌, ℕ, true, false, ◌&&◌, ap, arith}
use Rattle.enumset_repr.specs.BitSet.{BitSet, contains, len, empty, insert, remove, union, intersection, difference, symmetric_difference, is_subset}
use Rattle.enumset_repr.specs.Rules.Members.{decided}
use Rattle.enumset_repr.specs.Laws.Counting.{len_parts, len_union}

-- ---- one number

pub difference_insert : (s t : BitSet) (b : ℕ) → contains t b ≡ true → difference (insert s b) t ≡ difference s t
difference_insert s t b one = grind (arith, decided)

pub difference_remove : (s t : BitSet) (b : ℕ) → contains t b ≡ true → difference (remove s b) t ≡ difference s t
difference_remove s t b one = grind (arith, decided)

pub intersection_insert : (s t : BitSet) (b : ℕ) → contains t b ≡ false → intersection (insert s b) t ≡ intersection s t
intersection_insert s t b none = grind (arith, decided)

pub intersection_remove : (s t : BitSet) (b : ℕ) → contains t b ≡ false → intersection (remove s b) t ≡ intersection s t
intersection_remove s t b none = grind (arith, decided)

-- ---- parts of a set

pub difference_parts : (s t : BitSet) → union (difference s t) (intersection s t) ≡ s
difference_parts s t = grind (arith, decided)

pub difference_shared : (s t : BitSet) → difference s (intersection s t) ≡ difference s t
difference_shared s t = grind (arith, decided)

pub symmetric_parts : (s t : BitSet) → symmetric_difference s t ≡ difference (union s t) (intersection s t)
symmetric_parts s t = grind (arith, decided)

pub difference_over_union : (s t u : BitSet) → difference (union s t) u ≡ union (difference s u) (difference t u)
difference_over_union s t u = grind (arith, decided)

pub difference_over_intersection : (s t u : BitSet) → difference (intersection s t) u ≡ intersection (difference s u) (difference t u)
difference_over_intersection s t u = grind (arith, decided)

-- ---- how many

pub len_symmetric_difference : (s t : BitSet) → len (symmetric_difference s t) + 2 * len (intersection s t) ≡ len s + len t
len_symmetric_difference s t =
    let inside : intersection (union s t) (intersection s t) ≡ intersection s t = grind (arith, decided) in
    omega (arith, len_union s t, len_parts (union s t) (intersection s t), ap len (symmetric_parts s t), ap len inside)

-- ---- subsets and disjoint sets

pub is_subset_union : (s t u : BitSet) → is_subset (union s t) u ≡ (is_subset s u && is_subset t u)
is_subset_union s t u = grind (arith, decided)

-- ---- complements within a set v

pub complement_of_complement : (v s : BitSet) → difference v (difference v s) ≡ intersection s v
complement_of_complement v s = grind (arith, decided)

-- the complement within v, from that within a greater set
pub complement_within : (v w s : BitSet) → is_subset v w ≡ true → intersection (difference w s) v ≡ difference v s
complement_within v w s within = grind (arith, decided)

pub complement_outside : (v s : BitSet) → difference (difference v s) v ≡ empty
complement_outside v s = grind (arith, decided)

pub difference_insert_all : (s t u : BitSet) → is_subset u t ≡ true → difference (union s u) t ≡ difference s t
difference_insert_all s t u within = grind (arith, decided)

pub difference_remove_all : (s t u : BitSet) → is_subset u t ≡ true → difference (difference s u) t ≡ difference s t
difference_remove_all s t u within = grind (arith, decided)

-- What a proof about the parts of sets inside and outside one set needs, besides `algebra`:
-- `#[tactic(auto, using(enumset_repr::specs::Laws::Sets::in_parts))]`.
pub ruleset in_parts = (difference_insert, difference_remove, intersection_insert, intersection_remove, difference_parts, difference_shared, symmetric_parts, difference_over_union, difference_over_intersection, complement_of_complement, complement_outside)
