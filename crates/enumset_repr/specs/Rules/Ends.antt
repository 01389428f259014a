-- Rules for a search: the least and the greatest member, the list of the members, and what `find` finds in it. The
-- first part of each rule is always true: it shows the search where to use the rule.
--     found_tells      what `find` finds in a set's list is the least member that passes;  if it finds nothing, none
--         passes
--     least_tells, greatest_tells      `least` is a member, and none is less;  `greatest` is one, and none is greater;
--         if there is neither, the set is empty
--     least_at, greatest_at      what `least` and `greatest` say of a number that is looked up in this set or another
--     difference_tells, intersection_tells      a difference or an intersection that is empty
--     .._in      what is found is a member;  if nothing is found, there is none
--     .._has      no member in sight is less, or greater
--     ascending_..      the list of the members
-- The ruleset `found` has the first four rows. The ruleset `ends` has the others, and goes with `decided` of
-- `Members`, whose first lines say why these have a dummy variable.
use Rattle.std.proofs.Common.{◌≡◌, ◌≤◌, ℕ, suc, Bool, true, false, cond, List, [], ◌∷◌, Option, Some, None, refl, sym, ap, subst, ◌∙◌, arith, ◌==◌, MatchOption, find, eq-eqb, ◌↔◌}
use Rattle.std.proofs.lemmas.Bool.{or_left, or_right}
use Rattle.std.proofs.lemmas.Bool.Decides.{nat_tests}
use Rattle.enumset_repr.specs.BitSet.{BitSet, is_in, contains, ascending, empty, intersection, difference, is_subset, is_disjoint}
use Rattle.enumset_repr.specs.Ends.{least, greatest, first}
use Rattle.enumset_repr.specs.Laws.Algebra.{difference_none}
use Rattle.enumset_repr.specs.Laws.Ascending.{AscendsFrom, ascending_ascends, empty_of_ascending, is_in_from}
use Rattle.enumset_repr.specs.Laws.Ends.{least_facts, greatest_facts, ascending_no_least, ascending_no_greatest}
use Rattle.enumset_repr.specs.Laws.Members.{members, contains_empty, contains_ascending, is_disjoint_iff}
use Rattle.enumset_repr.specs.Laws.Firsts.{last_is_greatest, ascending_empty_iff}
use Rattle.enumset_repr.specs.Rules.Members.{at}

-- what `find` finds, where `inside` tells which numbers are in the list
abbrev pub IsLeast : (ℕ → Bool) → (ℕ → Bool) → Option ℕ → Type 0
IsLeast inside p o = MatchOption o ((q : ℕ) → inside q ≡ true → p q ≡ false) (λ m. (inside m ≡ true) × (p m ≡ true) × ((q : ℕ) → inside q ≡ true → p q ≡ true → m ≤ q))

least_found : (p : ℕ → Bool) (k : ℕ) (xs : List ℕ) → AscendsFrom k xs → IsLeast (λ q. is_in q xs) p (find p xs)
least_found p k [] ascends = λ q one. grind arith
least_found p k (x ∷ xs) ascends = elim (p x) as (λ t. p x ≡ t → IsLeast (λ q. is_in q (x ∷ xs)) p (cond t (Some x) (find p xs))) [
  | true ↦ λ here. (or_left (x == x) _ (eq-eqb x x refl), here, λ q one passes. is_in_from x q (x ∷ xs) (omega arith, ascends.1) one)
  | false ↦ λ other. later (find p xs) (least_found p (suc x) xs ascends.1) other
] refl
  where
    later : (o : Option ℕ) → IsLeast (λ q. is_in q xs) p o → p x ≡ false → IsLeast (λ q. is_in q (x ∷ xs)) p o
    later None none other = λ q one. let rest = none q in grind (arith, nat_tests)
    later (Some m) some other = (or_right (m == x) _ some.0, some.1, λ q one passes. let rest = some.2 q in grind (arith, nat_tests))

pub found_tells : (p : ℕ → Bool) (s : BitSet) → (find p (ascending s) ≡ find p (ascending s)) × IsLeast (contains s) p (find p (ascending s))
found_tells p s = (refl, subst (λ inside. IsLeast inside p (find p (ascending s))) (λ i q. sym (contains_ascending s q) i) (least_found p 0 (ascending s) (ascending_ascends s)))

-- ---- the ends

pub least_tells : (s : BitSet) → (least s ≡ least s) × MatchOption (least s) (s ≡ empty) (λ m. (contains s m ≡ true) × ((q : ℕ) → contains s q ≡ true → m ≤ q))
least_tells s = (refl, by (least s) refl) where
  by : (o : Option ℕ) → least s ≡ o → MatchOption o (s ≡ empty) (λ m. (contains s m ≡ true) × ((q : ℕ) → contains s q ≡ true → m ≤ q))
  by None none = empty_of_ascending s (ascending_no_least s none)
  by (Some m) is = let facts = least_facts s m is in (facts.0, λ q one. let low = facts.1 q in grind (arith, nat_tests))

pub greatest_tells : (s : BitSet) → (greatest s ≡ greatest s) × MatchOption (greatest s) (s ≡ empty) (λ m. (contains s m ≡ true) × ((q : ℕ) → contains s q ≡ true → q ≤ m))
greatest_tells s = (refl, by (greatest s) refl) where
  by : (o : Option ℕ) → greatest s ≡ o → MatchOption o (s ≡ empty) (λ m. (contains s m ≡ true) × ((q : ℕ) → contains s q ≡ true → q ≤ m))
  by None none = empty_of_ascending s (ascending_no_greatest s none)
  by (Some m) is = let facts = greatest_facts s m is in (facts.0, λ q one. let high = facts.1 q in grind (arith, nat_tests))

pub least_at : (s t : BitSet) (q : ℕ) → (least s ≡ least s) × (contains t q ≡ contains t q) × MatchOption (least s) (contains s q ≡ false) (λ m. contains s q ≡ true → m ≤ q)
least_at s t q = (refl, refl, by (least s) (least_tells s).1) where
  by : (o : Option ℕ) → MatchOption o (s ≡ empty) (λ m. (contains s m ≡ true) × ((q : ℕ) → contains s q ≡ true → m ≤ q)) → MatchOption o (contains s q ≡ false) (λ m. contains s q ≡ true → m ≤ q)
  by None none = ap (λ u. contains u q) none ∙ contains_empty q
  by (Some m) some = some.1 q

pub greatest_at : (s t : BitSet) (q : ℕ) → (greatest s ≡ greatest s) × (contains t q ≡ contains t q) × MatchOption (greatest s) (contains s q ≡ false) (λ m. contains s q ≡ true → q ≤ m)
greatest_at s t q = (refl, refl, by (greatest s) (greatest_tells s).1) where
  by : (o : Option ℕ) → MatchOption o (s ≡ empty) (λ m. (contains s m ≡ true) × ((q : ℕ) → contains s q ≡ true → q ≤ m)) → MatchOption o (contains s q ≡ false) (λ m. contains s q ≡ true → q ≤ m)
  by None none = ap (λ u. contains u q) none ∙ contains_empty q
  by (Some m) some = some.1 q

-- ---- where a search meets a difference or an intersection

pub difference_tells : (s t : BitSet) → (difference s t ≡ difference s t) × (difference s t ≡ empty → is_subset s t ≡ true)
difference_tells s t = (refl, difference_none s t)

pub intersection_tells : (s t : BitSet) → (intersection s t ≡ intersection s t) × (intersection s t ≡ empty → is_disjoint s t ≡ true)
intersection_tells s t = (refl, (is_disjoint_iff s t).1)

-- what it proves: what `find`, `least` and `greatest` return
pub ruleset found = (found_tells, least_tells, greatest_tells, least_at, greatest_at, members, difference_tells, intersection_tells)

-- ---- the least and the greatest member against a number in sight, and lists of members

pub least_has : (s : BitSet) (q : ℕ) (w : Bool) → (least s ≡ least s) × (at q w ≡ at q w) × MatchOption (least s) (contains s q ≡ false) (λ m. contains s q ≡ true → m ≤ q)
least_has s q w = (refl, refl, by (least s) (least_tells s).1) where
  by : (o : Option ℕ) → MatchOption o (s ≡ empty) (λ m. (contains s m ≡ true) × ((q : ℕ) → contains s q ≡ true → m ≤ q)) → MatchOption o (contains s q ≡ false) (λ m. contains s q ≡ true → m ≤ q)
  by None none = ap (λ u. contains u q) none ∙ contains_empty q
  by (Some m) some = some.1 q

pub least_in : (s : BitSet) → (least s ≡ least s) × MatchOption (least s) (s ≡ empty) (λ m. contains s m ≡ true)
least_in s = (refl, by (least s) (least_tells s).1) where
  by : (o : Option ℕ) → MatchOption o (s ≡ empty) (λ m. (contains s m ≡ true) × ((q : ℕ) → contains s q ≡ true → m ≤ q)) → MatchOption o (s ≡ empty) (λ m. contains s m ≡ true)
  by None none = none
  by (Some m) some = some.0

pub greatest_has : (s : BitSet) (q : ℕ) (w : Bool) → (greatest s ≡ greatest s) × (at q w ≡ at q w) × MatchOption (greatest s) (contains s q ≡ false) (λ m. contains s q ≡ true → q ≤ m)
greatest_has s q w = (refl, refl, by (greatest s) (greatest_tells s).1) where
  by : (o : Option ℕ) → MatchOption o (s ≡ empty) (λ m. (contains s m ≡ true) × ((q : ℕ) → contains s q ≡ true → q ≤ m)) → MatchOption o (contains s q ≡ false) (λ m. contains s q ≡ true → q ≤ m)
  by None none = ap (λ u. contains u q) none ∙ contains_empty q
  by (Some m) some = some.1 q

pub greatest_in : (s : BitSet) → (greatest s ≡ greatest s) × MatchOption (greatest s) (s ≡ empty) (λ m. contains s m ≡ true)
greatest_in s = (refl, by (greatest s) (greatest_tells s).1) where
  by : (o : Option ℕ) → MatchOption o (s ≡ empty) (λ m. (contains s m ≡ true) × ((q : ℕ) → contains s q ≡ true → q ≤ m)) → MatchOption o (s ≡ empty) (λ m. contains s m ≡ true)
  by None none = none
  by (Some m) some = some.0

-- only where `least` is in sight: a set's iterator shows its list, and the least member would be one more number at
-- which each set is read
pub ascending_first_is : (s : BitSet) → (least s ≡ least s) × (least s ≡ first (ascending s))
unfolding least
ascending_first_is s = (refl, refl)

pub ascending_has : (s : BitSet) (q : ℕ) (w : Bool) → (ascending s ≡ ascending s) × (at q w ≡ at q w) × (contains s q ≡ is_in q (ascending s))
ascending_has s q w = (refl, refl, contains_ascending s q)

pub ascending_none : (s : BitSet) → (ascending s ≡ ascending s) × ((ascending s ≡ []) ↔ (s ≡ empty))
ascending_none s = (refl, ascending_empty_iff s)

pub found_has : (p : ℕ → Bool) (s : BitSet) (q : ℕ) (w : Bool) → (find p (ascending s) ≡ find p (ascending s)) × (at q w ≡ at q w) × MatchOption (find p (ascending s)) (contains s q ≡ true → p q ≡ false) (λ m. contains s q ≡ true → p q ≡ true → m ≤ q)
found_has p s q w = (refl, refl, by (find p (ascending s)) (found_tells p s).1) where
  by : (o : Option ℕ) → MatchOption o ((q : ℕ) → contains s q ≡ true → p q ≡ false) (λ m. (contains s m ≡ true) × (p m ≡ true) × ((q : ℕ) → contains s q ≡ true → p q ≡ true → m ≤ q)) → MatchOption o (contains s q ≡ true → p q ≡ false) (λ m. contains s q ≡ true → p q ≡ true → m ≤ q)
  by None none = none q
  by (Some m) some = some.2 q

pub found_in : (p : ℕ → Bool) (s : BitSet) → (find p (ascending s) ≡ find p (ascending s)) × MatchOption (find p (ascending s)) (true ≡ true) (λ m. (contains s m ≡ true) × (p m ≡ true))
found_in p s = (refl, by (find p (ascending s)) (found_tells p s).1) where
  by : (o : Option ℕ) → MatchOption o ((q : ℕ) → contains s q ≡ true → p q ≡ false) (λ m. (contains s m ≡ true) × (p m ≡ true) × ((q : ℕ) → contains s q ≡ true → p q ≡ true → m ≤ q)) → MatchOption o (true ≡ true) (λ m. (contains s m ≡ true) × (p m ≡ true))
  by None none = refl
  by (Some m) some = (some.0, some.1)

-- what it proves: facts of the first and the last member
pub ruleset ends = (least_in, least_has, greatest_in, greatest_has, found_in, found_has, ascending_first_is, ascending_none, last_is_greatest, ascending_has)
