-- Folds of a list in the steps of a loop: the empty list, and a list with one more item at its end.
--     from_list_none, from_list_more, from_list_taken      the set of a list's numbers
--     union_all_none, union_all_more, union_all_mapped      the union of the sets of a list
--     union_none      extending a set by nothing
--     all_of_extended      extending the empty set
--     extended_more      extending a set by one more item
-- The ruleset `folds` has the first six, and the union with the empty set and with a set that has one more number.
use Rattle.std.proofs.Common.{◌≡◌, ◌<◌, ◌+◌, ℕ, List, [], ◌∷◌, ◌++◌, length, take, get_or, map, refl, sym, ap, ◌∙◌}
use Rattle.std.proofs.lemmas.List.{take_more}
use Rattle.enumset_repr.specs.BitSet.{BitSet, empty, insert, from_list, union}
use Rattle.enumset_repr.specs.Laws.Algebra.{union_empty, empty_union, union_insert, union_assoc, union_comm, insert_comm}
use Rattle.enumset_sets.specs.Folds.{union_all}

pub from_list_none : from_list [] ≡ empty
unfolding from_list
from_list_none = refl

pub from_list_more : {A : Type 0} (f : A → ℕ) (xs : List A) (x : A) → from_list (map f (xs ++ x ∷ [])) ≡ insert (from_list (map f xs)) (f x)
unfolding from_list
from_list_more f [] x = refl
from_list_more f (y ∷ ys) x =
    ap (λ s. insert s (f y)) (from_list_more f ys x) ∙ insert_comm (from_list (map f ys)) (f x) (f y)

-- the set of the first i + 1 items of a list is the set of the first i with one more inserted
pub from_list_taken : {A : Type 0} (f : A → ℕ) (xs : List A) (i : ℕ) (x : A) → i < length xs → x ≡ get_or xs i x → from_list (map f (take (i + 1) xs)) ≡ insert (from_list (map f (take i xs))) (f x)
from_list_taken f xs i x within is =
    ap (λ ys. from_list (map f ys)) (take_more xs i x within)
    ∙ from_list_more f (take i xs) (get_or xs i x)
    ∙ ap (λ y. insert (from_list (map f (take i xs))) (f y)) (sym is)

pub union_all_none : union_all [] ≡ empty
unfolding union_all
union_all_none = refl

pub union_all_more : (ss : List BitSet) (s : BitSet) → union_all (ss ++ s ∷ []) ≡ union (union_all ss) s
unfolding union_all
union_all_more [] s = union_empty s ∙ sym (empty_union s)
union_all_more (t ∷ ts) s = ap (union t) (union_all_more ts s) ∙ sym (union_assoc t (union_all ts) s)

-- the union of the sets that a function makes of a list's items, with one more item at the end
pub union_all_mapped : {A : Type 0} (f : A → BitSet) (xs : List A) (x : A) → union_all (map f (xs ++ x ∷ [])) ≡ union (f x) (union_all (map f xs))
unfolding union_all
union_all_mapped f [] x = refl
union_all_mapped f (y ∷ ys) x =
    ap (union (f y)) (union_all_mapped f ys x)
    ∙ sym (union_assoc (f y) (f x) (union_all (map f ys)))
    ∙ ap (λ s. union s (union_all (map f ys))) (union_comm (f y) (f x))
    ∙ union_assoc (f x) (f y) (union_all (map f ys))

-- a set extended by nothing
pub union_none : (s : BitSet) → union s (from_list []) ≡ s
union_none s = ap (union s) from_list_none ∙ union_empty s

-- the empty set extended by a set
pub all_of_extended : (s t r : BitSet) → s ≡ empty → r ≡ union s t → r ≡ t
all_of_extended s t r is_empty is = is ∙ ap (λ u. union u t) is_empty ∙ empty_union t

-- a set extended by one more item
pub extended_more : {A : Type 0} (f : A → ℕ) (s t u : BitSet) (xs : List A) (x : A) → t ≡ union s (from_list (map f xs)) → u ≡ insert t (f x) → u ≡ union s (from_list (map f (xs ++ x ∷ [])))
extended_more f s t u xs x before now =
    now ∙ ap (λ t. insert t (f x)) before ∙ sym (union_insert s (from_list (map f xs)) (f x)) ∙ ap (union s) (sym (from_list_more f xs x))

-- what it proves: the invariant of a loop that collects elements or sets
pub ruleset folds = (from_list_none, from_list_more, from_list_taken, union_all_none, union_all_more, union_all_mapped, union_empty, union_insert)
