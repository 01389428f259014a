-- Folds of a list of sets: only which items the list has matters, neither their order nor repeats.
--     contains_intersection_all, contains_union_all      which bits are in all the sets of a list;  in any of them
--     contains_fold_intersection, contains_fold_union      which bits std's `fold` over a list of sets leaves
--     intersection_all_more      an intersection with one more set at the end of the list
--     union_all_none, union_all_step      the union of a set with all sets of a list, one after another
--     any_same      whether a test passes for any item, for lists with the same items
--     from_list_same, union_all_same, intersection_all_same      lists with the same items make the same set
--     union_all_member, union_all_within, union_all_mono      the union of the sets that a function makes of the
--         members of a set contains each of these sets, is a subset of each set that contains them all, and of the
--         union for a superset
--     .._is_subset, .._is_disjoint      a union of many sets is a subset of a set, or disjoint from it, exactly if each
--         of the many is
-- The ruleset `folds` has what `contains` returns, one more set, and one set after another.
use Rattle.std.proofs.Common.{◌≡◌, ℕ, Bool, true, false, true≢false, not, ◌&&◌, ◌||◌, List, [], ◌∷◌, ◌++◌, map, fold, refl, sym, ap, subst, ◌∙◌, arith, Contains, ◌↔◌, ◌==◌, eq-eqb, eqb-true}
use Rattle.std.proofs.lemmas.Bool.{or_left, or_right}
use Rattle.std.proofs.lemmas.Bool.Decides.{nat_tests, same_from_decides}
use Rattle.std.proofs.lemmas.List.Folds.{Any-from_list_any, list_any_at}
use Rattle.std.specs.List.{list_all, list_any}
use Rattle.enumset_repr.specs.BitSet.{BitSet, is_in, contains, ascending, union, intersection, is_subset, is_disjoint, from_list}
use Rattle.enumset_repr.specs.Laws.Algebra.{union_empty, union_assoc, union_left, union_right, is_subset_trans}
use Rattle.enumset_repr.specs.Laws.Iteration.{all_not_any}
use Rattle.enumset_repr.specs.Laws.Lattice.{is_disjoint_union}
use Rattle.enumset_repr.specs.Rules.Members.{decided}
use Rattle.enumset_repr.specs.Laws.Members.{members, same_set, contains_from_list, contains_empty, contains_union, contains_ascending, is_subset_contains, empty_is_subset, union_is_subset}
use Rattle.enumset_repr.specs.Laws.Sets.{is_subset_union}
use Rattle.enumset_sets.specs.Folds.{union_all, intersection_all}

pub contains_intersection_all : (s : BitSet) (ts : List BitSet) (q : ℕ) → contains (intersection_all s ts) q ≡ (contains s q && list_all (λ t. contains t q) ts)
contains_intersection_all s [] q = grind arith
contains_intersection_all s (t ∷ ts) q = contains_intersection_all (intersection s t) ts q ∙ grind (arith, members)

pub contains_union_all : (ss : List BitSet) (q : ℕ) → contains (union_all ss) q ≡ list_any (λ s. contains s q) ss
unfolding union_all
contains_union_all [] q = contains_empty q
contains_union_all (s ∷ ss) q = contains_union s (union_all ss) q ∙ ap (λ b. contains s q || b) (contains_union_all ss q)

pub contains_fold_intersection : (s : BitSet) (ts : List BitSet) (q : ℕ) → contains (fold intersection s ts) q ≡ (contains s q && list_all (λ t. contains t q) ts)
contains_fold_intersection s [] q = grind arith
contains_fold_intersection s (t ∷ ts) q = contains_fold_intersection (intersection s t) ts q ∙ grind (arith, members)

pub contains_fold_union : (s : BitSet) (ts : List BitSet) (q : ℕ) → contains (fold union s ts) q ≡ (contains s q || list_any (λ t. contains t q) ts)
contains_fold_union s [] q = grind arith
contains_fold_union s (t ∷ ts) q = contains_fold_union (union s t) ts q ∙ grind (arith, members)

pub intersection_all_more : (s : BitSet) (ts : List BitSet) (t : BitSet) → intersection_all s (ts ++ t ∷ []) ≡ intersection (intersection_all s ts) t
intersection_all_more s [] t = refl
intersection_all_more s (u ∷ us) t = intersection_all_more (intersection s u) us t

pub union_all_none : (s : BitSet) → union s (union_all []) ≡ s
unfolding union_all
union_all_none s = union_empty s

pub union_all_step : (s t : BitSet) (ts : List BitSet) → union s (union_all (t ∷ ts)) ≡ union (union s t) (union_all ts)
unfolding union_all
union_all_step s t ts = sym (union_assoc s t (union_all ts))

-- ---- tests of the items of a list

module _ {A : Type 0} (p : A → Bool) where
  any_moves : (xs ys : List A) → ((x : A) → Contains xs x → Contains ys x) → list_any p xs ≡ true → list_any p ys ≡ true
  any_moves xs ys has one =
      let found = Any-from_list_any p xs one in
      let there = has found.1 (found.0, found.2, found.3) in
      list_any_at p ys there.0 found.1 there.1 (ap p there.2 ∙ found.4)

  -- a test passes for some item of one list exactly if it does for some item of a list with the same items
  pub any_same : (xs ys : List A) → ((x : A) → Contains xs x ↔ Contains ys x) → list_any p xs ≡ list_any p ys
  any_same xs ys same = same_from_decides _ _ (any_moves xs ys (λ x. (same x).0), any_moves ys xs (λ x. (same x).1)) (λ h. h, λ h. h)

is_in-any : {A : Type 0} (f : A → ℕ) (q : ℕ) (xs : List A) → is_in q (map f xs) ≡ list_any (λ x. q == f x) xs
is_in-any f q [] = refl
is_in-any f q (x ∷ xs) = ap (λ b. (q == f x) || b) (is_in-any f q xs)

pub from_list_same : {A : Type 0} (f : A → ℕ) (xs ys : List A) → ((x : A) → Contains xs x ↔ Contains ys x) → from_list (map f xs) ≡ from_list (map f ys)
from_list_same f xs ys same = same_set _ _ (λ q.
    contains_from_list (map f xs) q ∙ is_in-any f q xs ∙ any_same (λ x. q == f x) xs ys same ∙ sym (is_in-any f q ys) ∙ sym (contains_from_list (map f ys) q))

pub union_all_same : (ss ts : List BitSet) → ((s : BitSet) → Contains ss s ↔ Contains ts s) → union_all ss ≡ union_all ts
union_all_same ss ts same = same_set _ _ (λ q. contains_union_all ss q ∙ any_same (λ s. contains s q) ss ts same ∙ sym (contains_union_all ts q))

pub intersection_all_same : (s : BitSet) (ts us : List BitSet) → ((t : BitSet) → Contains ts t ↔ Contains us t) → intersection_all s ts ≡ intersection_all s us
intersection_all_same s ts us same = same_set _ _ (λ q.
    contains_intersection_all s ts q
    ∙ ap (λ b. contains s q && b) (all_not_any (λ t. contains t q) ts ∙ ap not (any_same (λ t. not (contains t q)) ts us same) ∙ sym (all_not_any (λ t. contains t q) us))
    ∙ sym (contains_intersection_all s us q))

-- ---- subsets and disjoint sets

-- a union of many sets is a subset of a set exactly if each of the many is
pub fold_is_subset : (s : BitSet) (ts : List BitSet) (u : BitSet) → is_subset (fold union s ts) u ≡ (is_subset s u && list_all (λ t. is_subset t u) ts)
fold_is_subset s [] u = grind arith
fold_is_subset s (t ∷ ts) u = fold_is_subset (union s t) ts u ∙ grind (arith, is_subset_union s t u)

pub union_all_is_subset : (ss : List BitSet) (u : BitSet) → is_subset (union_all ss) u ≡ list_all (λ s. is_subset s u) ss
unfolding union_all
union_all_is_subset [] u = empty_is_subset u
union_all_is_subset (s ∷ ss) u = is_subset_union s (union_all ss) u ∙ ap (λ b. is_subset s u && b) (union_all_is_subset ss u)

-- a union of many sets is disjoint from a set exactly if each of the many is
pub fold_is_disjoint : (s : BitSet) (ts : List BitSet) (u : BitSet) → is_disjoint (fold union s ts) u ≡ (is_disjoint s u && list_all (λ t. is_disjoint t u) ts)
fold_is_disjoint s [] u = grind arith
fold_is_disjoint s (t ∷ ts) u = fold_is_disjoint (union s t) ts u ∙ grind (arith, is_disjoint_union s t u)

pub union_all_is_disjoint : (ss : List BitSet) (u : BitSet) → is_disjoint (union_all ss) u ≡ list_all (λ s. is_disjoint s u) ss
unfolding union_all
union_all_is_disjoint [] u = grind (arith, decided)
union_all_is_disjoint (s ∷ ss) u = is_disjoint_union s (union_all ss) u ∙ ap (λ b. is_disjoint s u && b) (union_all_is_disjoint ss u)

-- ---- the union of the sets that a function makes of the members of a set

row_in : (f : ℕ → BitSet) (b : ℕ) (bs : List ℕ) → is_in b bs ≡ true → is_subset (f b) (union_all (map f bs)) ≡ true
unfolding union_all
row_in f b [] one = absurd (true≢false (sym one))
row_in f b (c ∷ bs) one = at (b == c) refl (row_in f b bs) where
  at : (t : Bool) → (b == c) ≡ t → (is_in b bs ≡ true → is_subset (f b) (union_all (map f bs)) ≡ true) → is_subset (f b) (union (f c) (union_all (map f bs))) ≡ true
  at true same later = subst (λ n. is_subset (f n) (union (f c) (union_all (map f bs))) ≡ true) (sym (eqb-true b c same)) (union_left (f c) (union_all (map f bs)))
  at false other later = is_subset_trans (f b) _ _ (later (grind (arith, nat_tests))) (union_right (f c) (union_all (map f bs)))

rows_within : (f : ℕ → BitSet) (u : BitSet) (bs : List ℕ) → ((b : ℕ) → is_in b bs ≡ true → is_subset (f b) u ≡ true) → is_subset (union_all (map f bs)) u ≡ true
unfolding union_all
rows_within f u [] each = empty_is_subset u
rows_within f u (b ∷ bs) each = union_is_subset u (f b) (union_all (map f bs)) (each b (or_left (b == b) _ (eq-eqb b b refl))) (rows_within f u bs (λ c one. each c (or_right (c == b) _ one)))

-- the union contains the set of each member
pub union_all_member : (f : ℕ → BitSet) (s : BitSet) (b : ℕ) → contains s b ≡ true → is_subset (f b) (union_all (map f (ascending s))) ≡ true
union_all_member f s b one = row_in f b (ascending s) (sym (contains_ascending s b) ∙ one)

-- the union is a subset of each set that contains the set of each member
pub union_all_within : (f : ℕ → BitSet) (s u : BitSet) → ((b : ℕ) → contains s b ≡ true → is_subset (f b) u ≡ true) → is_subset (union_all (map f (ascending s))) u ≡ true
union_all_within f s u each = rows_within f u (ascending s) (λ b one. each b (contains_ascending s b ∙ one))

-- the union for a subset is a subset of the union
pub union_all_mono : (f : ℕ → BitSet) (s t : BitSet) → is_subset s t ≡ true → is_subset (union_all (map f (ascending s))) (union_all (map f (ascending t))) ≡ true
union_all_mono f s t within = union_all_within f s _ (λ b one. union_all_member f t b (is_subset_contains s t within b one))

-- what it proves: which members a fold of a list of sets has
pub ruleset folds = (contains_intersection_all, contains_union_all, contains_fold_intersection, contains_fold_union, intersection_all_more, union_all_none, union_all_step)
