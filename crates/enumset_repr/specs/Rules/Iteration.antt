-- Rules for a search: loops over a set's iterator. The first part of each rule is always true: it shows the search
-- where to use the rule.
--     tallied_at, tally_is      a count over a set's list as the number of the members that pass
--     all_tells      a test of a set's list by any predicate, member by member
--     all_in, any_in      tests of a set's list by membership of another set
-- The ruleset `listed` is for the invariant of a loop: it leads tests and counts of a set's list back to sets, where
-- the list is in sight.
use Rattle.std.proofs.Common.{◌≡◌, ℕ, Bool, List, [], ◌∷◌, refl, arith, true, false, sym, ◌∙◌, true≢false, ◌==◌, count_by, not, ◌||◌, ◌&&◌, ap, eqb-true}
use Rattle.std.proofs.lemmas.Bool.Decides.{nat_tests}
use Rattle.std.specs.Bool.{MatchBool}
use Rattle.std.specs.List.{list_any, list_all}
use Rattle.std.proofs.lemmas.List.Sums.{sum_by-cons}
use Rattle.enumset_repr.specs.BitSet.{BitSet, contains, ascending, len, is_in, is_subset, is_disjoint, retain, insert_each}
use Rattle.enumset_repr.specs.Laws.Counting.{len_retain}
use Rattle.enumset_repr.specs.Laws.Retain.{retain_contains}
use Rattle.enumset_repr.specs.Rules.Members.{at}
use Rattle.enumset_repr.specs.Laws.Members.{contains_ascending, contains_insert_each}
use Rattle.enumset_repr.specs.Laws.Iteration.{find_next, list_any_next, list_all_next, is_subset_list, is_disjoint_list}

-- ---- tests and counts of a set's list

-- a call that shows a count over a set's list
pub tallied : (ℕ → Bool) → BitSet → Bool → Bool
tallied p s w = w

pub tallied_at : (p : ℕ → Bool) (s : BitSet) → (count_by p (ascending s) ≡ count_by p (ascending s)) × (tallied p s true ≡ true)
unfolding tallied
tallied_at p s = (refl, refl)

-- `count_by` computes to a sum, so a law that begins with `count_by` would be used wherever the set on its right is in
-- sight: `tallied` shows the count instead
pub tally_is : (p : ℕ → Bool) (s : BitSet) (w : Bool) → (tallied p s w ≡ tallied p s w) × (count_by p (ascending s) ≡ len (retain s p))
tally_is p s w = (refl, sym (len_retain s p))

-- which numbers a set has into which those of a list were inserted one by one
pub insert_each_once : (s : BitSet) (bs : List ℕ) (q : ℕ) (w : Bool) → (insert_each s bs ≡ insert_each s bs) × (at q w ≡ at q w) × (contains (insert_each s bs) q ≡ (contains s q || is_in q bs))
insert_each_once s bs q w = (refl, refl, contains_insert_each s bs q)

pub all_in : (s t : BitSet) → list_all (contains t) (ascending s) ≡ is_subset s t
all_in s t = sym (is_subset_list s t)

pub any_in : (s t : BitSet) → list_any (contains t) (ascending s) ≡ not (is_disjoint s t)
any_in s t = let same = is_disjoint_list s t in grind arith

listed_all : (p : ℕ → Bool) (xs : List ℕ) → MatchBool (list_all p xs) ((q : ℕ) → is_in q xs ≡ true → p q ≡ true) ((q : ℕ) × (is_in q xs ≡ true) × (p q ≡ false))
listed_all p [] = λ q one. absurd (true≢false (sym one))
listed_all p (x ∷ xs) = elim (p x) as (λ t. p x ≡ t → MatchBool (t && list_all p xs) ((q : ℕ) → is_in q (x ∷ xs) ≡ true → p q ≡ true) ((q : ℕ) × (is_in q (x ∷ xs) ≡ true) × (p q ≡ false))) [
  | true ↦ λ here. by (list_all p xs) (listed_all p xs) here
  | false ↦ λ none. (x, grind (arith, nat_tests), none)
] refl
  where
    by : (t : Bool) → MatchBool t ((q : ℕ) → is_in q xs ≡ true → p q ≡ true) ((q : ℕ) × (is_in q xs ≡ true) × (p q ≡ false)) → p x ≡ true → MatchBool t ((q : ℕ) → is_in q (x ∷ xs) ≡ true → p q ≡ true) ((q : ℕ) × (is_in q (x ∷ xs) ≡ true) × (p q ≡ false))
    by true each here = λ q. elim (q == x) as (λ t. (q == x) ≡ t → (t || is_in q xs) ≡ true → p q ≡ true) [
      | true ↦ λ e _. ap p (eqb-true q x e) ∙ here
      | false ↦ λ _ one. each q one
    ] refl
    by false some here = (some.0, grind (arith, nat_tests, some.1), some.2)

-- any test of a set's list, by the members
pub all_tells : (p : ℕ → Bool) (s : BitSet) → (list_all p (ascending s) ≡ list_all p (ascending s)) × MatchBool (list_all p (ascending s)) ((q : ℕ) → contains s q ≡ true → p q ≡ true) ((q : ℕ) × (contains s q ≡ true) × (p q ≡ false))
all_tells p s = (refl, by (list_all p (ascending s)) (listed_all p (ascending s))) where
  by : (t : Bool) → MatchBool t ((q : ℕ) → is_in q (ascending s) ≡ true → p q ≡ true) ((q : ℕ) × (is_in q (ascending s) ≡ true) × (p q ≡ false)) → MatchBool t ((q : ℕ) → contains s q ≡ true → p q ≡ true) ((q : ℕ) × (contains s q ≡ true) × (p q ≡ false))
  by true each = λ q one. each q (sym (contains_ascending s q) ∙ one)
  by false some = (some.0, contains_ascending s some.0 ∙ some.1, some.2)

-- ---- the ruleset

pub ruleset listed = (tallied_at, tally_is, insert_each_once, retain_contains, all_in, any_in, all_tells, find_next, list_any_next, list_all_next, sum_by-cons)
