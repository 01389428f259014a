-- The first and the last member of a set, as an iterator yields them, and the list of a set that is written out.
--     first_member, first_least, first_rest      the first number of a set's list is a member, and the least;  the
--         others are the list of the set without it
--     last_member, last_greatest, last_rest      the last number is a member, and the greatest;  the others are the
--         list of the set without it
--     first_is_least, last_is_greatest      the first number of a set's list is `least`;  the last is `greatest`
--     ascending_empty_iff      a set's list is empty exactly if the set is
--     insert_sorted, ascending_insert      the list of a set with a number inserted
-- The rulesets for a tactic are `firsts`, which has the first four rows, and `written_out`, for a set that is written
-- out.
use Rattle.std.proofs.Common.{◌≡◌, ◌≤◌, ℕ, suc, Bool, true, false, cond, ◌||◌, List, [], ◌∷◌, ◌++◌, Some, refl, sym, ap, subst, ◌∙◌, arith, ◌↔◌, ◌==◌, nat_lt}
use Rattle.std.proofs.lemmas.Bool.Decides.{nat_tests}
use Rattle.enumset_repr.specs.BitSet.{BitSet, is_in, contains, ascending, empty, insert, remove, from_list}
use Rattle.enumset_repr.specs.Ends.{first, last, without_first, without_last, least, greatest}
use Rattle.enumset_repr.specs.Laws.Members.{contains_ascending, contains_insert, union_only}
use Rattle.enumset_repr.specs.Laws.Ascending.{AscendsFrom, ascending_ascends, ascending_is, ascending_empty, empty_of_ascending, is_in_from}
use Rattle.enumset_repr.specs.Laws.Ends.{ascending_least, ascending_greatest, least_facts, greatest_facts, last_push, without_last_push}

pub ascending_empty_iff : (s : BitSet) → (ascending s ≡ []) ↔ (s ≡ empty)
ascending_empty_iff s = (empty_of_ascending s, λ e. ap ascending e ∙ ascending_empty)

-- ---- the first

pub first_is_least : (s : BitSet) (m : ℕ) (xs : List ℕ) → ascending s ≡ m ∷ xs → least s ≡ Some m
unfolding least
first_is_least s m xs is = ap first is

pub first_member : (s : BitSet) (m : ℕ) (xs : List ℕ) → ascending s ≡ m ∷ xs → contains s m ≡ true
first_member s m xs is = (least_facts s m (first_is_least s m xs is)).0

pub first_least : (s : BitSet) (m : ℕ) (xs : List ℕ) (q : ℕ) → ascending s ≡ m ∷ xs → contains s q ≡ true → m ≤ q
first_least s m xs q is one =
    let ascends : AscendsFrom 0 (m ∷ xs) = subst (AscendsFrom 0) is (ascending_ascends s) in
    is_in_from m q (m ∷ xs) (omega arith, ascends.1) (sym (contains_ascending s q ∙ ap (is_in q) is) ∙ one)

pub first_rest : (s : BitSet) (m : ℕ) (xs : List ℕ) → ascending s ≡ m ∷ xs → xs ≡ ascending (remove s m)
first_rest s m xs is = ap without_first (sym is ∙ ascending_least s m (first_is_least s m xs is))

-- ---- the last

pub last_is_greatest : (s : BitSet) (m : ℕ) (xs : List ℕ) → ascending s ≡ xs ++ m ∷ [] → greatest s ≡ Some m
unfolding greatest
last_is_greatest s m xs is = ap last is ∙ last_push xs m

pub last_member : (s : BitSet) (m : ℕ) (xs : List ℕ) → ascending s ≡ xs ++ m ∷ [] → contains s m ≡ true
last_member s m xs is = (greatest_facts s m (last_is_greatest s m xs is)).0

pub last_greatest : (s : BitSet) (m : ℕ) (xs : List ℕ) (q : ℕ) → ascending s ≡ xs ++ m ∷ [] → contains s q ≡ true → q ≤ m
last_greatest s m xs q is one = let none = (greatest_facts s m (last_is_greatest s m xs is)).1 q in grind (arith, nat_tests)

pub last_rest : (s : BitSet) (m : ℕ) (xs : List ℕ) → ascending s ≡ xs ++ m ∷ [] → xs ≡ ascending (remove s m)
last_rest s m xs is = sym (without_last_push xs m) ∙ ap without_last (sym is ∙ ascending_greatest s m (last_is_greatest s m xs is)) ∙ without_last_push _ m

-- what it proves: what a step of a set's iterator yields and leaves
pub ruleset firsts = (ascending_empty_iff, first_is_least, first_member, first_least, first_rest, last_is_greatest, last_member, last_greatest, last_rest)

-- ---- the list of a set that is written out

-- an ascending list with one number inserted
abbrev pub insert_sorted : ℕ → List ℕ → List ℕ
insert_sorted b [] = b ∷ []
insert_sorted b (x ∷ xs) = cond (nat_lt b x) (b ∷ x ∷ xs) (cond (b == x) (x ∷ xs) (x ∷ insert_sorted b xs))

ascends-insert : (k b : ℕ) (xs : List ℕ) → k ≤ b → AscendsFrom k xs → AscendsFrom k (insert_sorted b xs)
ascends-insert k b [] within a = (within, tt)
ascends-insert k b (x ∷ xs) within a = at (nat_lt b x) (b == x) (ascends-insert (suc x) b xs) refl refl where
  at : (less same : Bool) → (suc x ≤ b → AscendsFrom (suc x) xs → AscendsFrom (suc x) (insert_sorted b xs)) → nat_lt b x ≡ less → (b == x) ≡ same
      → AscendsFrom k (cond less (b ∷ x ∷ xs) (cond same (x ∷ xs) (x ∷ insert_sorted b xs)))
  at true same later less other = (within, (grind (arith, nat_tests), a.1))
  at false true later _ _ = a
  at false false later less other = (a.0, later (grind (arith, nat_tests)) a.1)

is_in-insert : (q b : ℕ) (xs : List ℕ) → is_in q (insert_sorted b xs) ≡ ((q == b) || is_in q xs)
is_in-insert q b [] = refl
is_in-insert q b (x ∷ xs) = grind (arith, nat_tests, is_in-insert q b xs)

pub ascending_insert : (s : BitSet) (b : ℕ) → ascending (insert s b) ≡ insert_sorted b (ascending s)
ascending_insert s b = ascending_is (insert s b) (insert_sorted b (ascending s))
    (ascends-insert 0 b (ascending s) (omega arith) (ascending_ascends s))
    (λ q. contains_insert s b q ∙ ap (λ t. (q == b) || t) (contains_ascending s q) ∙ sym (is_in-insert q b (ascending s)))

pub from_list_empty : from_list [] ≡ empty
unfolding from_list
from_list_empty = refl

pub from_list_next : (b : ℕ) (bs : List ℕ) → from_list (b ∷ bs) ≡ insert (from_list bs) b
unfolding from_list
from_list_next b bs = refl

-- what it proves: the list of a set whose members are written out
pub ruleset written_out = (ascending_empty, ascending_insert, union_only, from_list_empty, from_list_next)
