-- The members that pass a test.
--     retain_retain, retain_all, retain_none      two tests, one after the other;  a test that each number passes, and
--         one that none passes
--     retain_same      tests that agree on the members
--     retain_empty, retain_insert, retain_union, retain_intersection, retain_difference      the test over a set that
--         is made of others
--     retain_is_subset, retain_mono      the result is a subset of the set;  the result for a subset is a subset of it
--     retain_parts, retain_apart, len_retain_parts      the members that pass a test and those that do not:  together
--         they are the set, none is in both, and their sizes add up
--     retain_contains, retain_outside      the members that are in another set, and those that are not
use Rattle.std.proofs.Common.{◌≡◌, ◌+◌, ℕ, Bool, true, false, cond, not, ◌&&◌, refl, ap, arith}
use Rattle.std.proofs.lemmas.Bool.Decides.{nat_tests}
use Rattle.enumset_repr.specs.BitSet.{BitSet, contains, len, empty, insert, retain, union, intersection, difference, is_subset, is_disjoint}
use Rattle.enumset_repr.specs.Laws.Ascending.{len_empty}
use Rattle.enumset_repr.specs.Laws.Counting.{len_union}
use Rattle.enumset_repr.specs.Rules.Members.{decided}
use Rattle.enumset_repr.specs.Laws.Members.{members, same_set}

-- two tests, one after the other, are one test
pub retain_retain : (s : BitSet) (p q : ℕ → Bool) → retain (retain s p) q ≡ retain s (λ b. p b && q b)
retain_retain s p q = same_set _ _ (λ b. grind (arith, members))

-- a test that each number passes leaves all members
pub retain_all : (s : BitSet) → retain s (λ _. true) ≡ s
retain_all s = same_set _ _ (λ b. grind (arith, members))

-- a test that no number passes leaves none
pub retain_none : (s : BitSet) → retain s (λ _. false) ≡ empty
retain_none s = same_set _ _ (λ b. grind (arith, members))

-- tests that agree on the members leave the same members
pub retain_same : (s : BitSet) (p q : ℕ → Bool) → ((b : ℕ) → contains s b ≡ true → p b ≡ q b) → retain s p ≡ retain s q
retain_same s p q same = same_set _ _ (λ b. let here = same b in grind (arith, members))

-- of the empty set nothing is left
pub retain_empty : (p : ℕ → Bool) → retain empty p ≡ empty
retain_empty p = same_set _ _ (λ b. grind (arith, members))

-- an inserted number stays exactly if it passes
pub retain_insert : (s : BitSet) (b : ℕ) (p : ℕ → Bool) → retain (insert s b) p ≡ cond (p b) (insert (retain s p) b) (retain s p)
retain_insert s b p = same_set _ _ (at (p b) refl) where
  at : (t : Bool) → p b ≡ t → (q : ℕ) → contains (retain (insert s b) p) q ≡ contains (cond t (insert (retain s p) b) (retain s p)) q
  at true is q = grind (arith, members, nat_tests)
  at false is q = grind (arith, members, nat_tests)

-- what passes of a union is what passes of either set
pub retain_union : (s t : BitSet) (p : ℕ → Bool) → retain (union s t) p ≡ union (retain s p) (retain t p)
retain_union s t p = same_set _ _ (λ b. grind (arith, members))

-- what passes of an intersection is what passes of both sets
pub retain_intersection : (s t : BitSet) (p : ℕ → Bool) → retain (intersection s t) p ≡ intersection (retain s p) (retain t p)
retain_intersection s t p = same_set _ _ (λ b. grind (arith, members))

-- what passes of a difference is what passes of the first set and not of the second
pub retain_difference : (s t : BitSet) (p : ℕ → Bool) → retain (difference s t) p ≡ difference (retain s p) (retain t p)
retain_difference s t p = same_set _ _ (λ b. grind (arith, members))

-- what is left is a subset of the set
pub retain_is_subset : (s : BitSet) (p : ℕ → Bool) → is_subset (retain s p) s ≡ true
retain_is_subset s p = grind (arith, decided)

-- what is left of a subset is a subset of what is left of the set
pub retain_mono : (s t : BitSet) (p : ℕ → Bool) → is_subset s t ≡ true → is_subset (retain s p) (retain t p) ≡ true
retain_mono s t p within = grind (arith, decided)

-- ---- the two parts of a set by a test

-- the members that pass and those that do not are together the set
pub retain_parts : (s : BitSet) (p : ℕ → Bool) → union (retain s p) (retain s (λ b. not (p b))) ≡ s
retain_parts s p = same_set _ _ (λ b. grind (arith, members))

-- no member both passes and does not
pub retain_apart : (s : BitSet) (p : ℕ → Bool) → is_disjoint (retain s p) (retain s (λ b. not (p b))) ≡ true
retain_apart s p = grind (arith, decided)

-- the sizes of the two parts add up to the size of the set
pub len_retain_parts : (s : BitSet) (p : ℕ → Bool) → len (retain s p) + len (retain s (λ b. not (p b))) ≡ len s
len_retain_parts s p =
    let none : intersection (retain s p) (retain s (λ b. not (p b))) ≡ empty = same_set _ _ (λ b. grind (arith, members)) in
    omega (arith, len_union (retain s p) (retain s (λ b. not (p b))), ap len (retain_parts s p), ap len none, len_empty)

-- ---- a test of membership

-- the members that are in t
pub retain_contains : (s t : BitSet) → retain s (contains t) ≡ intersection s t
unfolding intersection
retain_contains s t = refl

-- the members that are not in t
pub retain_outside : (s t : BitSet) → retain s (λ b. not (contains t b)) ≡ difference s t
unfolding difference
retain_outside s t = refl
