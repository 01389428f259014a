-- Rules for a search: facts of sets, decided by their members. Each set that is made of others is read at each number
-- in sight, and what is left is a question of cases. The ruleset `decided` proves equations, inclusions, disjointness,
-- emptiness, sameness and membership of sets, from hypotheses of these kinds.
--     some_member, differing      a number that decides whether a set is empty;  whether two sets are the same
--     at, .._once      what `contains` returns for each set, at a number in sight
--     .._each, .._not      what a test says of each number in sight, or of the number that decides it
--     insert_in, insert_not_empty      a number that is inserted is a member;  the set is then not empty
-- How a goal is proved. What is about a number brings this number into sight: `same_set`, `contains_is_subset` and
-- `contains_is_disjoint` any number, since they end in what is to be proved; an `is_empty` or `is_same` that is false
-- the number that decides it. What is known to hold for all numbers, like that a set is a subset of another, is then
-- used at each number in sight, and `grind` splits the cases. That s is a subset of t, or disjoint from t, is used only
-- where `contains t q` is in sight, since it says nothing otherwise: each `EnumSet` brings the fact that it is a subset
-- of the valid bits, and with these cases too the search would give up in a function of five sets.
-- Dummy variables. `grind` uses a law at the first call in its conclusion that shows all its variables, wherever that
-- call is in sight. A law that shows `contains (union s t) q` is used only where exactly that call occurs, so a union
-- of the hypotheses is not read at the number of the goal. `union_once` has one more variable, `w`, so that no single
-- call shows all: it is used wherever one call shows `union s t` and another one shows `at q w`. `at_each` makes
-- `at q true` once for each number in sight. The first parts of such a law, like `union s t ≡ union s t`, only show the
-- calls, and are always true.
-- What must not be here:
--     a law of a constant, like `len empty ≡ 0`, since the constant comes into sight of every goal
--     a law that makes a witness of `is_subset s t ≡ false`, for the same reason:  `contains_is_subset` does its work,
--         and so does `contains_is_disjoint`
--     a law that counts wherever `is_subset` or `is_disjoint` occurs, since it makes terms at each of them:  see
--         `len_of_part` of `Counts`
-- Named variants. By `insert_in` each number that is inserted comes into sight, and each set is read there: with six
-- named variants the search gave up. Goals about their sets are mostly decided at a number of their own, so the ruleset
-- of a crate's root has `insert_not_empty` in place of `insert_in`, and two rules that bring inserted numbers into
-- sight where a set may be empty, or two may be disjoint. `union_only` and `difference_only` are here since a goal like
-- `result ≡ Some (insert s b)` is not an equation between sets.
use Rattle.std.proofs.Common.{◌≡◌, ◌↔◌, ℕ, Bool, true, false, arith, List, [], ◌∷◌, get_or, refl, sym, ap, ◌∙◌, not, ◌&&◌, ◌||◌, true≢false, ◌==◌, nat_lt}
use Rattle.std.proofs.lemmas.Bool.{false_from_ne_true}
use Rattle.std.proofs.lemmas.Bool.Decides.{nat_tests, same_from_decides}
use Rattle.enumset_repr.specs.BitSet.{BitSet, is_in, contains, ascending, is_empty, empty, insert, remove, retain, union, intersection, difference, symmetric_difference, is_subset, is_disjoint, is_same, below, low}
use Rattle.enumset_repr.specs.Laws.Members.{members, same_set, union_only, difference_only, contains_empty, contains_insert, contains_remove, contains_retain, contains_ascending, contains_from_list, contains_union, contains_intersection, contains_difference, contains_symmetric_difference, contains_below, contains_low, is_subset_contains, contains_is_subset, is_disjoint_contains, contains_is_disjoint, is_same_iff}
use Rattle.enumset_repr.specs.Laws.Ascending.{empty_of_ascending, is_empty_iff}

-- ---- a number that decides a test

-- the least member, or 0 if there is none
pub some_member : BitSet → ℕ
some_member s = get_or (ascending s) 0 0

pub empty_at : (s : BitSet) → is_empty s ≡ not (contains s (some_member s))
unfolding some_member
empty_at s = by (ascending s) refl where
  by : (bs : List ℕ) → ascending s ≡ bs → is_empty s ≡ not (contains s (get_or (ascending s) 0 0))
  by [] none =
      let e = empty_of_ascending s none in
      (is_empty_iff s).1 e ∙ sym (ap (λ u. not (contains u (get_or (ascending s) 0 0))) e ∙ ap not (contains_empty _))
  by (b ∷ bs) is =
      let here : is_in b (b ∷ bs) ≡ true = grind (arith, nat_tests) in
      let one : contains s b ≡ true = contains_ascending s b ∙ ap (is_in b) is ∙ here in
      let no : is_empty s ≡ false = false_from_ne_true _ (λ e. true≢false (sym one ∙ ap (λ u. contains u b) ((is_empty_iff s).0 e) ∙ contains_empty b)) in
      no ∙ sym (ap not (ap (λ cs. contains s (get_or cs 0 0)) is ∙ one))

pub empty_each : (s : BitSet) → (is_empty s ≡ is_empty s) × (is_empty s ≡ true → (q : ℕ) → contains s q ≡ false)
empty_each s = (refl, λ e q. ap (λ u. contains u q) ((is_empty_iff s).0 e) ∙ contains_empty q)

pub empty_of : (s : BitSet) → (is_empty s ≡ is_empty s) × (is_empty s ≡ true → s ≡ empty)
empty_of s = (refl, (is_empty_iff s).0)

pub empty_not : (s : BitSet) → (is_empty s ≡ is_empty s) × (is_empty s ≡ false → contains s (some_member s) ≡ true)
empty_not s = (refl, λ no. let h = empty_at s in grind arith)

-- a number that is in exactly one of two sets, or 0 if there is none
pub differing : BitSet → BitSet → ℕ
differing s t = some_member (symmetric_difference s t)

same_empty : (s t : BitSet) → (is_empty (symmetric_difference s t) ≡ true) ↔ (s ≡ t)
same_empty s t = (
  λ e. same_set s t (λ q. let none = (empty_each (symmetric_difference s t)).1 e q in grind (arith, members)),
  λ e. (is_empty_iff _).1 (same_set _ _ (λ q. let eq = ap (λ u. contains u q) e in grind (arith, members))),
)

pub same_at : (s t : BitSet) → is_same s t ≡ ((contains s (differing s t) && contains t (differing s t)) || (not (contains s (differing s t)) && not (contains t (differing s t))))
unfolding differing
same_at s t =
    let same : is_same s t ≡ is_empty (symmetric_difference s t) = same_from_decides _ _ (is_same_iff s t) (same_empty s t) in
    same ∙ empty_at (symmetric_difference s t) ∙ ap not (contains_symmetric_difference s t _) ∙ grind arith

pub same_each : (s t : BitSet) → (is_same s t ≡ is_same s t) × (is_same s t ≡ true → s ≡ t)
same_each s t = (refl, (is_same_iff s t).0)

pub same_not : (s t : BitSet) → (is_same s t ≡ is_same s t) × (is_same s t ≡ false → contains s (differing s t) ≡ not (contains t (differing s t)))
same_not s t = (refl, λ no. let h = same_at s t in grind arith)

-- ---- each set in sight at each number in sight

-- a call that shows a number
pub at : ℕ → Bool → Bool
at q w = w

pub at_each : (u : BitSet) (q : ℕ) → (contains u q ≡ contains u q) × (at q true ≡ true)
unfolding at
at_each u q = (refl, refl)

pub empty_once : (q : ℕ) (w : Bool) → (at q w ≡ at q w) × (contains empty q ≡ false)
empty_once q w = (refl, contains_empty q)

pub union_once : (s t : BitSet) (q : ℕ) (w : Bool) → (union s t ≡ union s t) × (at q w ≡ at q w) × (contains (union s t) q ≡ (contains s q || contains t q))
union_once s t q w = (refl, refl, contains_union s t q)

pub intersection_once : (s t : BitSet) (q : ℕ) (w : Bool) → (intersection s t ≡ intersection s t) × (at q w ≡ at q w) × (contains (intersection s t) q ≡ (contains s q && contains t q))
intersection_once s t q w = (refl, refl, contains_intersection s t q)

pub difference_once : (s t : BitSet) (q : ℕ) (w : Bool) → (difference s t ≡ difference s t) × (at q w ≡ at q w) × (contains (difference s t) q ≡ (contains s q && not (contains t q)))
difference_once s t q w = (refl, refl, contains_difference s t q)

pub symmetric_difference_once : (s t : BitSet) (q : ℕ) (w : Bool) → (symmetric_difference s t ≡ symmetric_difference s t) × (at q w ≡ at q w) × (contains (symmetric_difference s t) q ≡ ((contains s q && not (contains t q)) || (contains t q && not (contains s q))))
symmetric_difference_once s t q w = (refl, refl, contains_symmetric_difference s t q)

pub insert_once : (s : BitSet) (b : ℕ) (q : ℕ) (w : Bool) → (insert s b ≡ insert s b) × (at q w ≡ at q w) × (contains (insert s b) q ≡ ((q == b) || contains s q))
insert_once s b q w = (refl, refl, contains_insert s b q)

pub remove_once : (s : BitSet) (b : ℕ) (q : ℕ) (w : Bool) → (remove s b ≡ remove s b) × (at q w ≡ at q w) × (contains (remove s b) q ≡ (not (q == b) && contains s q))
remove_once s b q w = (refl, refl, contains_remove s b q)

pub retain_once : (s : BitSet) (p : ℕ → Bool) (q : ℕ) (w : Bool) → (retain s p ≡ retain s p) × (at q w ≡ at q w) × (contains (retain s p) q ≡ (contains s q && p q))
retain_once s p q w = (refl, refl, contains_retain s p q)

pub below_once : (n : ℕ) (q : ℕ) (w : Bool) → (below n ≡ below n) × (at q w ≡ at q w) × (contains (below n) q ≡ nat_lt q n)
below_once n q w = (refl, refl, contains_below n q)

pub low_once : (s : BitSet) (n : ℕ) (q : ℕ) (w : Bool) → (low s n ≡ low s n) × (at q w ≡ at q w) × (contains (low s n) q ≡ (contains s q && nat_lt q n))
low_once s n q w = (refl, refl, contains_low s n q)

pub insert_in : (s : BitSet) (b : ℕ) → (insert s b ≡ insert s b) × (contains (insert s b) b ≡ true)
insert_in s b = (refl, grind (arith, members, nat_tests))

-- ---- what a test says of a number in sight

pub subset_each : (s t : BitSet) (q : ℕ) → (is_subset s t ≡ is_subset s t) × (contains t q ≡ contains t q) × (is_subset s t ≡ true → contains s q ≡ true → contains t q ≡ true)
subset_each s t q = (refl, refl, λ sub h. is_subset_contains s t sub q h)

pub disjoint_each : (s t : BitSet) (q : ℕ) → (is_disjoint s t ≡ is_disjoint s t) × (contains t q ≡ contains t q) × (is_disjoint s t ≡ true → contains s q ≡ true → contains t q ≡ false)
disjoint_each s t q = (refl, refl, λ apart h. is_disjoint_contains s t apart q h)

-- each set in sight at each number in sight
pub ruleset read_at_each = (at_each, empty_once, union_once, intersection_once, difference_once, symmetric_difference_once, insert_once, remove_once, retain_once, below_once, low_once, contains_from_list)

-- what is known of sets, at each number in sight
pub ruleset told_at_each = (union_only, difference_only, nat_tests, same_set, subset_each, disjoint_each, contains_is_subset, contains_is_disjoint, empty_of, empty_not, same_not, same_each)

-- what it proves: equations, inclusions, disjointness, emptiness, sameness and membership of sets, from hypotheses of
-- these kinds
pub ruleset decided = (read_at_each, insert_in, told_at_each)

-- ---- the same for code that names many variants

pub insert_not_empty : (s : BitSet) (b : ℕ) → (insert s b ≡ insert s b) × (insert s b ≡ empty → true ≡ false)
insert_not_empty s b = (refl, λ none. sym (insert_in s b).1 ∙ ap (λ u. contains u b) none ∙ contains_empty b)

pub insert_in_empty : (s : BitSet) (b : ℕ) (u : BitSet) → (insert s b ≡ insert s b) × (is_empty u ≡ is_empty u) × (contains (insert s b) b ≡ true)
insert_in_empty s b u = (refl, refl, (insert_in s b).1)

pub insert_in_disjoint : (s : BitSet) (b : ℕ) (t u : BitSet) → (insert s b ≡ insert s b) × (is_disjoint t u ≡ is_disjoint t u) × (contains (insert s b) b ≡ true)
insert_in_disjoint s b t u = (refl, refl, (insert_in s b).1)

pub ruleset decided_of_named = (read_at_each, insert_not_empty, insert_in_empty, insert_in_disjoint, told_at_each)
