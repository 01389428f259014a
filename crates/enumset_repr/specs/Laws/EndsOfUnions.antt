-- The least and the greatest member of a set that is made of others, and the list of a union.
--     least_none_iff, greatest_none_iff      the empty set alone has neither
--     least_insert, greatest_insert      the ends of a set with a number inserted
--     least_union, greatest_union      the ends of a union
--     least_subset, greatest_subset      a subset begins no lower, and ends no higher
--     ascending_union      the list of a union of a lower and a higher set
use Rattle.std.proofs.Common.{◌≡◌, ◌≤◌, ◌<◌, ◌↔◌, ℕ, suc, min, max, true, ◌||◌, List, [], ◌∷◌, ◌++◌, Some, None, refl, sym, ap, ◌∙◌, arith, ◌==◌, inl, inr}
use Rattle.std.proofs.Math.Nat.{min-eq_left, min-eq_right, max-eq_left, max-eq_right}
use Rattle.std.proofs.lemmas.Bool.{cases_lt, or_left, or_right}
use Rattle.std.proofs.lemmas.Bool.Decides.{nat_tests}
use Rattle.enumset_repr.specs.BitSet.{BitSet, is_in, contains, ascending, empty, insert, union, is_subset}
use Rattle.enumset_repr.specs.Ends.{least, greatest}
use Rattle.enumset_repr.specs.Laws.Algebra.{union_comm}
use Rattle.enumset_repr.specs.Laws.Ascending.{AscendsFrom, ascending_ascends, ascends_higher, ascending_is, empty_of_ascending}
use Rattle.enumset_repr.specs.Laws.Ends.{least_is, greatest_is, least_empty, greatest_empty, least_facts, greatest_facts, ascending_no_least, ascending_no_greatest}
use Rattle.enumset_repr.specs.Laws.Members.{contains_insert, contains_union, contains_ascending, is_subset_contains}

-- the empty set alone has no least member
pub least_none_iff : (s : BitSet) → (least s ≡ None) ↔ (s ≡ empty)
least_none_iff s = (λ none. empty_of_ascending s (ascending_no_least s none), λ is. ap least is ∙ least_empty)

-- the empty set alone has no greatest member
pub greatest_none_iff : (s : BitSet) → (greatest s ≡ None) ↔ (s ≡ empty)
greatest_none_iff s = (λ none. empty_of_ascending s (ascending_no_greatest s none), λ is. ap greatest is ∙ greatest_empty)

-- ---- the least

-- the least member of a set with a number inserted
pub least_insert : (s : BitSet) (b m : ℕ) → least s ≡ Some m → least (insert s b) ≡ Some (min b m)
least_insert s b m first = let facts = least_facts s m first in elim (cases_lt b m) [
  | inl under ↦
      least_is (insert s b) b (grind (arith, nat_tests, contains_insert s b b)) (λ q low. let none = facts.1 q in grind (arith, nat_tests, contains_insert s b q))
      ∙ ap (λ n. Some n) (sym (min-eq_left (omega (arith, under))))
  | inr over ↦
      least_is (insert s b) m (let one = facts.0 in grind (arith, nat_tests, contains_insert s b m)) (λ q low. let none = facts.1 q in grind (arith, nat_tests, contains_insert s b q))
      ∙ ap (λ n. Some n) (sym (min-eq_right over))
]

-- where one set begins no higher than another, the union begins where it does
least_lower : (s t : BitSet) (a b : ℕ) → least s ≡ Some a → least t ≡ Some b → a ≤ b → least (union s t) ≡ Some a
least_lower s t a b first other low =
    let facts = least_facts s a first in
    let more = least_facts t b other in
    let one = facts.0 in
    least_is (union s t) a (grind (arith, contains_union s t a)) (λ q under. let none = facts.1 q in let nor = more.1 q in grind (arith, nat_tests, contains_union s t q))

-- the least member of a union is the lesser of the two
pub least_union : (s t : BitSet) (a b : ℕ) → least s ≡ Some a → least t ≡ Some b → least (union s t) ≡ Some (min a b)
least_union s t a b first other = elim (cases_lt a b) [
  | inl under ↦ least_lower s t a b first other (omega (arith, under)) ∙ ap (λ n. Some n) (sym (min-eq_left (omega (arith, under))))
  | inr over ↦ ap least (union_comm s t) ∙ least_lower t s b a other first over ∙ ap (λ n. Some n) (sym (min-eq_right over))
]

-- the least member of a subset is at least that of the set
pub least_subset : (s t : BitSet) (a b : ℕ) → is_subset s t ≡ true → least s ≡ Some a → least t ≡ Some b → b ≤ a
least_subset s t a b within first other =
    let one = is_subset_contains s t within a (least_facts s a first).0 in
    let none = (least_facts t b other).1 a in
    grind (arith, nat_tests)

-- ---- the greatest

-- the greatest member of a set with a number inserted
pub greatest_insert : (s : BitSet) (b m : ℕ) → greatest s ≡ Some m → greatest (insert s b) ≡ Some (max b m)
greatest_insert s b m last = let facts = greatest_facts s m last in elim (cases_lt m b) [
  | inl over ↦
      greatest_is (insert s b) b (grind (arith, nat_tests, contains_insert s b b)) (λ q high. let none = facts.1 q in grind (arith, nat_tests, contains_insert s b q))
      ∙ ap (λ n. Some n) (sym (max-eq_left (omega (arith, over))))
  | inr under ↦
      greatest_is (insert s b) m (let one = facts.0 in grind (arith, nat_tests, contains_insert s b m)) (λ q high. let none = facts.1 q in grind (arith, nat_tests, contains_insert s b q))
      ∙ ap (λ n. Some n) (sym (max-eq_right under))
]

-- where one set ends no lower than another, the union ends where it does
greatest_higher : (s t : BitSet) (a b : ℕ) → greatest s ≡ Some a → greatest t ≡ Some b → b ≤ a → greatest (union s t) ≡ Some a
greatest_higher s t a b last other high =
    let facts = greatest_facts s a last in
    let more = greatest_facts t b other in
    let one = facts.0 in
    greatest_is (union s t) a (grind (arith, contains_union s t a)) (λ q over. let none = facts.1 q in let nor = more.1 q in grind (arith, nat_tests, contains_union s t q))

-- the greatest member of a union is the greater of the two
pub greatest_union : (s t : BitSet) (a b : ℕ) → greatest s ≡ Some a → greatest t ≡ Some b → greatest (union s t) ≡ Some (max a b)
greatest_union s t a b last other = elim (cases_lt b a) [
  | inl over ↦ greatest_higher s t a b last other (omega (arith, over)) ∙ ap (λ n. Some n) (sym (max-eq_left (omega (arith, over))))
  | inr under ↦ ap greatest (union_comm s t) ∙ greatest_higher t s b a other last under ∙ ap (λ n. Some n) (sym (max-eq_right under))
]

-- the greatest member of a subset is at most that of the set
pub greatest_subset : (s t : BitSet) (a b : ℕ) → is_subset s t ≡ true → greatest s ≡ Some a → greatest t ≡ Some b → a ≤ b
greatest_subset s t a b within last other =
    let one = is_subset_contains s t within a (greatest_facts s a last).0 in
    let none = (greatest_facts t b other).1 a in
    grind (arith, nat_tests)

-- ---- the list

ascends_joined : (k : ℕ) (xs ys : List ℕ) → AscendsFrom k xs → AscendsFrom k ys → ((q r : ℕ) → is_in q xs ≡ true → is_in r ys ≡ true → q < r) → AscendsFrom k (xs ++ ys)
ascends_joined k [] ys low high before = high
ascends_joined k (x ∷ xs) ys low high before = (
  low.0,
  ascends_joined (suc x) xs ys low.1
      (ascends_higher k (suc x) ys high (λ r one. before x r (or_left (x == x) _ (grind (arith, nat_tests))) one))
      (λ q r one other. before q r (or_right (q == x) _ one) other),
)

is_in-joined : (q : ℕ) (xs ys : List ℕ) → is_in q (xs ++ ys) ≡ (is_in q xs || is_in q ys)
is_in-joined q [] ys = refl
is_in-joined q (x ∷ xs) ys = grind (arith, nat_tests, is_in-joined q xs ys)

-- the list of a union, where each member of s is below each member of t
pub ascending_union : (s t : BitSet) → ((b c : ℕ) → contains s b ≡ true → contains t c ≡ true → b < c) → ascending (union s t) ≡ ascending s ++ ascending t
ascending_union s t below = ascending_is (union s t) (ascending s ++ ascending t)
    (ascends_joined 0 (ascending s) (ascending t) (ascending_ascends s) (ascending_ascends t) (λ q r one other. below q r (contains_ascending s q ∙ one) (contains_ascending t r ∙ other)))
    (λ q. grind (arith, contains_union s t q, contains_ascending s q, contains_ascending t q, is_in-joined q (ascending s) (ascending t)))
