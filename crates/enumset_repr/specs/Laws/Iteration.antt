-- Tests of the list of the members, and the numbers at its places.
--     find_next, list_any_next, list_all_next      a test of a list that loses its first number, as the list of the
--         numbers still to come does in each step of a loop
--     all_not_any      all pass exactly if none fails
--     is_subset_list, is_disjoint_list      a subset and disjoint sets as tests of a list
--     read_in, at_place      the number at a place of a list is in it;  of a set's list, a member
-- The ruleset for loops over a set's iterator is in `Rules/Iteration.antt`.
use Rattle.std.proofs.Common.{◌≡◌, ℕ, Bool, cond, not, ◌&&◌, ◌||◌, List, [], ◌∷◌, Some, refl, arith, find, ◌<◌, suc, zero, true, length, ◌∙◌, ◌==◌, slice_index_or, eq-eqb}
use Rattle.std.proofs.lemmas.Bool.Decides.{nat_tests}
use Rattle.std.specs.List.{list_any, list_all}
use Rattle.enumset_repr.specs.BitSet.{BitSet, contains, ascending, is_subset, is_disjoint, is_in}
use Rattle.std.proofs.lemmas.Bool.{or_left, or_right}
use Rattle.enumset_repr.specs.Laws.Members.{contains_ascending}

pub find_next : (p : ℕ → Bool) (b : ℕ) (bs : List ℕ) → find p (b ∷ bs) ≡ cond (p b) (Some b) (find p bs)
find_next p b bs = refl

pub list_any_next : (p : ℕ → Bool) (b : ℕ) (bs : List ℕ) → list_any p (b ∷ bs) ≡ (p b || list_any p bs)
list_any_next p b bs = refl

pub list_all_next : (p : ℕ → Bool) (b : ℕ) (bs : List ℕ) → list_all p (b ∷ bs) ≡ (p b && list_all p bs)
list_all_next p b bs = refl

pub all_not_any : {A : Type 0} (p : A → Bool) (xs : List A) → list_all p xs ≡ not (list_any (λ x. not (p x)) xs)
all_not_any p [] = refl
all_not_any p (x ∷ xs) = grind (arith, all_not_any p xs)

pub is_subset_list : (s t : BitSet) → is_subset s t ≡ list_all (contains t) (ascending s)
unfolding is_subset
is_subset_list s t = refl

not_all : (p : ℕ → Bool) (xs : List ℕ) → list_all (λ b. not (p b)) xs ≡ not (list_any p xs)
not_all p [] = refl
not_all p (x ∷ xs) = grind (arith, nat_tests, not_all p xs)

pub is_disjoint_list : (s t : BitSet) → is_disjoint s t ≡ not (list_any (contains t) (ascending s))
unfolding is_disjoint
is_disjoint_list s t = not_all (contains t) (ascending s)

-- ---- the numbers at the places of a list

-- a number at a place of a list is in the list
pub read_in : (k d : ℕ) (xs : List ℕ) → k < length xs → is_in (slice_index_or xs k d) xs ≡ true
read_in k d [] within = absurd (omega (arith, within))
read_in zero d (x ∷ xs) within = or_left (x == x) _ (eq-eqb x x refl)
read_in (suc k) d (x ∷ xs) within = or_right (slice_index_or xs k d == x) _ (read_in k d xs (omega (arith, within)))

pub at_place : (s : BitSet) (k d : ℕ) → k < length (ascending s) → contains s (slice_index_or (ascending s) k d) ≡ true
at_place s k d within = contains_ascending s _ ∙ read_in k d (ascending s) within
