-- The lattice of sets under inclusion: antisymmetry, bounds, monotony.
--     is_subset_antisym, is_disjoint_comm      two sets, each a subset of the other, are equal;  `is_disjoint` is
--         symmetric
--     is_subset_iff_union, is_subset_iff_intersection, is_disjoint_iff_difference      a subset, and disjoint sets, by
--         an equation:  `is_subset_iff` and `is_disjoint_iff` of `Members` have other equations
--     is_subset_intersection, is_subset_difference, is_subset_insert      a subset of an intersection and of a
--         difference;  a set with a number inserted, as a subset:  `is_subset_union` of `Sets` has a union, as a subset
--     is_disjoint_union      a union is disjoint from a set exactly if both sets are
--     .._mono, complement_antitone      an operation on subsets results in a subset of its result on the sets;  the
--         complement of a set is a subset of that of its subsets
use Rattle.std.proofs.Common.{◌≡◌, ◌↔◌, ℕ, true, ◌&&◌, subst, arith}
use Rattle.enumset_repr.specs.BitSet.{BitSet, contains, insert, remove, union, intersection, difference, is_subset, is_disjoint}
use Rattle.enumset_repr.specs.Laws.Algebra.{union_within, union_left, intersection_within, intersection_right, difference_apart, is_disjoint_difference}
use Rattle.enumset_repr.specs.Rules.Members.{decided}
use Rattle.enumset_repr.specs.Laws.Members.{is_subset_contains, is_disjoint_contains, contains_is_disjoint}

-- ---- subsets and disjoint sets

-- two sets, each a subset of the other, are equal
pub is_subset_antisym : (s t : BitSet) → is_subset s t ≡ true → is_subset t s ≡ true → s ≡ t
is_subset_antisym s t one other = grind (arith, decided)

-- disjointness is symmetric
pub is_disjoint_comm : (s t : BitSet) → is_disjoint s t ≡ is_disjoint t s
is_disjoint_comm s t = grind (arith, decided)

-- s is a subset of t exactly if it adds nothing to t
pub is_subset_iff_union : (s t : BitSet) → (is_subset s t ≡ true) ↔ (union s t ≡ t)
is_subset_iff_union s t = (union_within s t, λ same. subst (λ u. is_subset s u ≡ true) same (union_left s t))

-- s is a subset of t exactly if t leaves all of it
pub is_subset_iff_intersection : (s t : BitSet) → (is_subset s t ≡ true) ↔ (intersection s t ≡ s)
is_subset_iff_intersection s t = (intersection_within s t, λ same. subst (λ u. is_subset u t ≡ true) same (intersection_right s t))

-- s and t are disjoint exactly if removing the members of t leaves s as it is
pub is_disjoint_iff_difference : (s t : BitSet) → (is_disjoint s t ≡ true) ↔ (difference s t ≡ s)
is_disjoint_iff_difference s t = (difference_apart s t, λ same. subst (λ u. is_disjoint u t ≡ true) same (is_disjoint_difference s t))

-- the intersection is the greatest subset of both sets
pub is_subset_intersection : (u s t : BitSet) → is_subset u (intersection s t) ≡ (is_subset u s && is_subset u t)
is_subset_intersection u s t = grind (arith, decided)

-- a subset of a difference is a subset of s that is disjoint from t
pub is_subset_difference : (u s t : BitSet) → is_subset u (difference s t) ≡ (is_subset u s && is_disjoint u t)
is_subset_difference u s t = grind (arith, decided)

-- a set with a number inserted is a subset of t exactly if the set is and t has the number
pub is_subset_insert : (s t : BitSet) (b : ℕ) → is_subset (insert s b) t ≡ (contains t b && is_subset s t)
is_subset_insert s t b = grind (arith, decided)

-- a union is disjoint from u exactly if both sets are
pub is_disjoint_union : (s t u : BitSet) → is_disjoint (union s t) u ≡ (is_disjoint s u && is_disjoint t u)
is_disjoint_union s t u = grind (arith, decided)

-- ---- monotony: here s is a subset of t, and u of v

-- the union of subsets is a subset of the union
pub union_mono : (s t u v : BitSet) → is_subset s t ≡ true → is_subset u v ≡ true → is_subset (union s u) (union t v) ≡ true
union_mono s t u v one other = grind (arith, decided)

-- the intersection of subsets is a subset of the intersection
pub intersection_mono : (s t u v : BitSet) → is_subset s t ≡ true → is_subset u v ≡ true → is_subset (intersection s u) (intersection t v) ≡ true
intersection_mono s t u v one other = grind (arith, decided)

-- the difference of a subset and a larger set is a subset of the difference: here v is a subset of u
pub difference_mono : (s t u v : BitSet) → is_subset s t ≡ true → is_subset v u ≡ true → is_subset (difference s u) (difference t v) ≡ true
difference_mono s t u v one other = grind (arith, decided)

-- the complement of t within v is a subset of that of s
pub complement_antitone : (v s t : BitSet) → is_subset s t ≡ true → is_subset (difference v t) (difference v s) ≡ true
complement_antitone v s t within = grind (arith, decided)

-- a subset with a number inserted is a subset of the set with this number inserted
pub insert_mono : (s t : BitSet) (b : ℕ) → is_subset s t ≡ true → is_subset (insert s b) (insert t b) ≡ true
insert_mono s t b within = grind (arith, decided)

-- a subset with a number removed is a subset of the set with this number removed
pub remove_mono : (s t : BitSet) (b : ℕ) → is_subset s t ≡ true → is_subset (remove s b) (remove t b) ≡ true
remove_mono s t b within = grind (arith, decided)

-- subsets of disjoint sets are disjoint
pub is_disjoint_mono : (s t u v : BitSet) → is_subset s t ≡ true → is_subset u v ≡ true → is_disjoint t v ≡ true → is_disjoint s u ≡ true
is_disjoint_mono s t u v one other apart = contains_is_disjoint s u (λ q here.
    let there = is_disjoint_contains t v apart q (is_subset_contains s t one q here) in
    let more = is_subset_contains u v other q in
    grind arith)
