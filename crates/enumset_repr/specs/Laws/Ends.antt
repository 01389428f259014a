-- The least and the greatest member, and steps from an end of a list.
--     last_push, without_last_push      the last item of a list after a push, and the list without it
--     cases_last      a list is empty, or has a last item
--     none_last      a list without a last item is empty
--     gives_last      a step from the end yields `last` of a list and leaves `without_last`
--     least_is, greatest_is      a member with none before it is the least;  one with none past it is the greatest
--     least_empty, greatest_empty      the empty set has neither
--     least_facts, greatest_facts      the least is a member, and none is less;  the greatest is one, and none is past
--         it
--     least_below, greatest_below      the least and the greatest member are below a bound of all members
--     ascending_least, ascending_greatest      the least comes first in the list, and the greatest last
--     trailing_least, leading_greatest      what `trailing_zeros` and `leading_zeros` count, at each number of bits
--     least_fits      the least member of a number is below a width that the number fits
--     clear_least, least_positive      `n & (n - 1)`;  a number with a least member is not 0
-- The ruleset `lasts` has the last item after a push, `at_the_ends` the ends of a set.
use Rattle.std.proofs.Common.{◌≡◌, ℕ, ◌-◌, List, [], ◌∷◌, ◌++◌, length, take, length-append, refl, sym, ap, ◌∙◌, ◌⊎◌, inl, inr, arith, Option, Some, None, MatchOption, ◌<◌, ◌≤◌, suc, zero, ◌+◌, ◌^◌, true, false, subst, true≢false, ◌==◌, IfSome, IsSome, is_some, bit_and, slice_get, eq-eqb}
use Rattle.std.proofs.Math.Seq.{take-append_seam}
use Rattle.std.specs.List.{last_or}
use Rattle.enumset_repr.specs.Ends.{last, without_last, least, greatest}
use Rattle.std.proofs.lemmas.Bool.{or_left, false_from_ne_true}
use Rattle.std.proofs.lemmas.Bool.Decides.{nat_tests}
use Rattle.std.specs.Int.Count.{count_trailing_zeros, count_leading_zeros, trailing_of_zero, leading_of_zero}
use Rattle.enumset_repr.specs.BitSet.{is_in, BitSet, contains, ascending, empty, remove, is_subset, below}
use Rattle.enumset_repr.specs.Number.{bits}
use Rattle.enumset_repr.specs.Laws.Members.{contains_ascending, member_below}
use Rattle.enumset_repr.specs.Laws.Ascending.{len_ascending, AscendsFrom, ascending_ascends, ascending_empty, is_in_below, is_in_push, before_last, ascending_first, ascending_last}
use Rattle.enumset_repr.specs.Laws.Numbers.{lt_pow, bits_zero, bits_within, bits_clear_least, least_bits, greatest_bits}

last_or-push : (o : Option ℕ) (xs : List ℕ) (x : ℕ) → last_or o (xs ++ x ∷ []) ≡ Some x
last_or-push o [] x = refl
last_or-push o (y ∷ ys) x = last_or-push (Some y) ys x

pub last_push : (xs : List ℕ) (x : ℕ) → last (xs ++ x ∷ []) ≡ Some x
last_push xs x = last_or-push None xs x

one_less : (xs : List ℕ) (x : ℕ) → length (xs ++ x ∷ []) - 1 ≡ length xs
one_less xs x = omega (arith, length-append xs (x ∷ []))

pub without_last_push : (xs : List ℕ) (x : ℕ) → without_last (xs ++ x ∷ []) ≡ xs
without_last_push xs x = ap (λ n. take n (xs ++ x ∷ [])) (one_less xs x) ∙ take-append_seam xs (x ∷ [])

pub cases_last : (xs : List ℕ) → (xs ≡ []) ⊎ ((ys : List ℕ) × (y : ℕ) × (xs ≡ ys ++ y ∷ []))
cases_last [] = inl refl
cases_last (x ∷ xs) = elim (cases_last xs) [
  | inl none ↦ inr ([], x, ap (λ l. x ∷ l) none)
  | inr some ↦ inr (x ∷ some.0, some.1, ap (λ l. x ∷ l) some.2)
]

pub none_last : (xs : List ℕ) → last xs ≡ None → xs ≡ []
none_last xs none = elim (cases_last xs) [
  | inl empty ↦ empty
  | inr some ↦ let found : None ≡ Some some.1 = sym none ∙ ap last some.2 ∙ last_push some.0 some.1 in absurd (cc)
]

pub gives_last : (xs : List ℕ) (r : Option ℕ) (ys : List ℕ) → MatchOption r ((xs ≡ []) × (ys ≡ [])) (λ x. xs ≡ ys ++ x ∷ []) → (r ≡ last xs) × (ys ≡ without_last xs)
gives_last xs None ys step = (sym (ap last step.0), step.1 ∙ sym (ap without_last step.0))
gives_last xs (Some x) ys step = (sym (ap last step ∙ last_push ys x), sym (ap without_last step ∙ without_last_push ys x))

pub ruleset lasts = (last_push, without_last_push)

-- ---- the least

pub least_is : (s : BitSet) (m : ℕ) → contains s m ≡ true → ((q : ℕ) → q < m → contains s q ≡ false) → least s ≡ Some m
unfolding least
least_is s m one none = ap (λ xs. slice_get xs 0) (ascending_first s m one none)

pub least_empty : least empty ≡ None
unfolding least
least_empty = ap (λ xs. slice_get xs 0) ascending_empty

-- a list that has a first item begins with it
first_item : (xs : List ℕ) (m : ℕ) → slice_get xs 0 ≡ Some m → (ys : List ℕ) × (xs ≡ m ∷ ys)
first_item [] m first = absurd (cc)
first_item (x ∷ xs) m first = let same : x ≡ m = cc in (xs, ap (λ y. y ∷ xs) same)

-- a list without a first item is empty
no_first : (xs : List ℕ) → slice_get xs 0 ≡ None → xs ≡ []
no_first [] none = refl
no_first (x ∷ xs) none = absurd (cc)

pub least_facts : (s : BitSet) (m : ℕ) → least s ≡ Some m → (contains s m ≡ true) × ((q : ℕ) → q < m → contains s q ≡ false)
unfolding least
least_facts s m first =
    let parts = first_item (ascending s) m first in
    let ascends : AscendsFrom 0 (m ∷ parts.0) = subst (AscendsFrom 0) parts.1 (ascending_ascends s) in (
      contains_ascending s m ∙ ap (is_in m) parts.1 ∙ or_left (m == m) _ (eq-eqb m m refl),
      λ q under. contains_ascending s q ∙ ap (is_in q) parts.1 ∙ is_in_below m q (m ∷ parts.0) (omega arith, ascends.1) under,
    )

-- the least member comes first
pub ascending_least : (s : BitSet) (m : ℕ) → least s ≡ Some m → ascending s ≡ m ∷ ascending (remove s m)
ascending_least s m first = let facts = least_facts s m first in ascending_first s m facts.0 facts.1

pub ascending_no_least : (s : BitSet) → least s ≡ None → ascending s ≡ []
unfolding least
ascending_no_least s none = no_first (ascending s) none

-- ---- the greatest

pub greatest_is : (s : BitSet) (m : ℕ) → contains s m ≡ true → ((q : ℕ) → m < q → contains s q ≡ false) → greatest s ≡ Some m
unfolding greatest
greatest_is s m one none = ap last (ascending_last s m one none) ∙ last_push (ascending (remove s m)) m

pub greatest_empty : greatest empty ≡ None
unfolding greatest
greatest_empty = ap (last_or None) ascending_empty

last_facts : (k : ℕ) (xs : List ℕ) (m : ℕ) → AscendsFrom k xs → last xs ≡ Some m → (is_in m xs ≡ true) × ((q : ℕ) → is_in q xs ≡ true → q ≤ m)
last_facts k xs m ascends end = elim (cases_last xs) [
  | inl none ↦ let lost : None ≡ Some m = sym (ap last none) ∙ end in absurd (cc)
  | inr some ↦
      let found : Some some.1 ≡ Some m = sym (ap last some.2 ∙ last_push some.0 some.1) ∙ end in
      let same : some.1 ≡ m = cc in
      let before = λ (q : ℕ). before_last k some.0 some.1 q (subst (AscendsFrom k) some.2 ascends) in
      let parts = λ (q : ℕ). ap (is_in q) some.2 ∙ is_in_push q some.1 some.0 in
      (grind (arith, nat_tests, parts m), λ q one. let low = before q in grind (arith, nat_tests, parts q))
]

pub greatest_facts : (s : BitSet) (m : ℕ) → greatest s ≡ Some m → (contains s m ≡ true) × ((q : ℕ) → m < q → contains s q ≡ false)
unfolding greatest
greatest_facts s m last =
    let facts = last_facts 0 (ascending s) m (ascending_ascends s) last in (
      contains_ascending s m ∙ facts.0,
      λ q over. false_from_ne_true (contains s q) (λ one. let near : q ≤ m = facts.1 q (sym (contains_ascending s q) ∙ one) in omega arith),
    )

-- the greatest member comes last
pub ascending_greatest : (s : BitSet) (m : ℕ) → greatest s ≡ Some m → ascending s ≡ ascending (remove s m) ++ m ∷ []
ascending_greatest s m last = let facts = greatest_facts s m last in ascending_last s m facts.0 facts.1

-- ---- both are below a bound of all members

pub least_below : (s : BitSet) (width m : ℕ) → is_subset s (below width) ≡ true → least s ≡ Some m → m < width
least_below s width m within is = member_below s width m within (least_facts s m is).0

pub greatest_below : (s : BitSet) (width m : ℕ) → is_subset s (below width) ≡ true → greatest s ≡ Some m → m < width
greatest_below s width m within is = member_below s width m within (greatest_facts s m is).0

-- the set without its greatest member has fewer members
pub fewer_greatest : (s : BitSet) (m : ℕ) → greatest s ≡ Some m → length (ascending (remove s m)) < length (ascending s)
fewer_greatest s m last = omega (arith, ap length (ascending_greatest s m last), length-append (ascending (remove s m)) (m ∷ []))

pub ascending_no_greatest : (s : BitSet) → greatest s ≡ None → ascending s ≡ []
unfolding greatest
ascending_no_greatest s none = none_last (ascending s) none

-- ---- the ends of a number's set

-- `n.trailing_zeros()` is the least member, or the width if there is none
pub trailing_least : (w n : ℕ) → n < 2 ^ w → MatchOption (least (bits n)) (count_trailing_zeros w n ≡ w) (λ m. count_trailing_zeros w n ≡ m)
trailing_least w zero fits = rw (bits_zero, least_empty) (trailing_of_zero w)
trailing_least w (suc n) fits =
    let facts = least_bits w (suc n) (omega arith) fits in
    rw (least_is _ _ facts.0 facts.1) refl

pub least_fits : (w n : ℕ) → n < 2 ^ w → IfSome (least (bits n)) (λ m. m < w)
least_fits w zero fits = rw (bits_zero, least_empty) tt
least_fits w (suc n) fits =
    let facts = least_bits w (suc n) (omega arith) fits in
    rw (least_is _ _ facts.0 facts.1) (member_below (bits (suc n)) w _ (bits_within (suc n) w fits) facts.0)

-- `n.leading_zeros()` counts the bits above the greatest member, and is the width if there is none
pub leading_greatest : (w n : ℕ) → n < 2 ^ w → MatchOption (greatest (bits n)) (count_leading_zeros w n ≡ w) (λ m. count_leading_zeros w n + m + 1 ≡ w)
leading_greatest w zero fits = rw (bits_zero, greatest_empty) (leading_of_zero w)
leading_greatest w (suc n) fits =
    let facts = greatest_bits w (suc n) (omega arith) fits in
    rw (greatest_is _ _ facts.1 facts.2) (omega (arith, facts.0))

-- `n & (n - 1)` removes the least member
pub clear_least : (n : ℕ) → IfSome (least (bits n)) (λ m. bits (bit_and n (n - 1)) ≡ remove (bits n) m)
clear_least zero = rw (bits_zero, least_empty) tt
clear_least (suc n) =
    let facts = least_bits (suc n) (suc n) (omega arith) (lt_pow (suc n)) in
    rw (least_is _ _ facts.0 facts.1) (bits_clear_least (suc n) (suc n) (omega arith) (lt_pow (suc n)))

-- a number with a least member is not 0
pub least_positive : (n : ℕ) → IsSome (least (bits n)) → 0 < n
least_positive zero some = absurd (true≢false (sym some ∙ ap is_some (ap least bits_zero ∙ least_empty)))
least_positive (suc n) some = omega arith

pub ruleset at_the_ends = (ascending_least, ascending_no_least, ascending_greatest, ascending_no_greatest, fewer_greatest, len_ascending)
