-- Rules for a search: numbers of sets, in the order of sets and in bits masked out of an integer. The first part of
-- each rule is always true: it shows the search where to use the rule.
--     numbered_at      the sets whose numbers are in sight
--     number_of_part      the number of a subset is at most that of the set
--     and_none      `a & b == 0` as a test of disjoint sets
--     and_ones      the bits of a mask of ones, like 0xff
-- The ruleset `ordering` proves facts of the order, which is that of the numbers, and `masks` facts of the bits of an
-- integer. Their laws apply where sets are compared, or where an integer is masked.
use Rattle.std.proofs.Common.{◌≡◌, ◌↔◌, ◌≤◌, ◌^◌, ℕ, suc, Bool, true, refl, ap, ◌∙◌, arith, ◌==◌, bit_and}
use Rattle.std.proofs.lemmas.Bool.Decides.{nat_tests}
use Rattle.std.proofs.lemmas.Grind.{low_zeros}
use Rattle.enumset_repr.specs.BitSet.{BitSet, is_empty, is_subset, is_disjoint, below}
use Rattle.enumset_repr.specs.Number.{number, bits}
use Rattle.enumset_repr.specs.Laws.Counting.{is_empty_intersection}
use Rattle.enumset_repr.specs.Laws.Integers.{masked_tells, and_not, or_and_not, bits_ones}
use Rattle.enumset_repr.specs.Laws.Numbers.{bits_number, bits_and, bits_or, bits_xor, bits_is_empty}
use Rattle.enumset_repr.specs.Laws.Order.{compare_number, number_max, number_min, max_superset, superset_max, min_subset, subset_min}
use Rattle.enumset_repr.specs.Laws.Sums.{sum_subset}

-- ---- the order

-- a dummy term that shows the search each set whose number is in sight
pub numbered : BitSet → Bool → Bool
numbered s w = w

pub numbered_at : (s : BitSet) → (number s ≡ number s) × (numbered s true ≡ true) × (bits (number s) ≡ s)
unfolding numbered
numbered_at s = (refl, refl, bits_number s)

pub number_of_part : (s t : BitSet) (v w : Bool) → (is_subset s t ≡ is_subset s t) × (numbered s v ≡ numbered s v) × (numbered t w ≡ numbered t w) × (is_subset s t ≡ true → number s ≤ number t)
unfolding number
number_of_part s t v w = (refl, refl, refl, sum_subset (λ b. 2 ^ b) s t)

-- what it proves: facts of the order of sets, which is that of their numbers
pub ruleset ordering = (compare_number, number_max, number_min, numbered_at, number_of_part, max_superset, superset_max, min_subset, subset_min)

-- ---- bits masked out

pub and_none : (a b : ℕ) → (bit_and a b ≡ bit_and a b) × ((bit_and a b ≡ 0) ↔ (is_disjoint (bits a) (bits b) ≡ true))
and_none a b =
    let same : (bit_and a b == 0) ≡ is_disjoint (bits a) (bits b) = bits_is_empty _ ∙ ap is_empty (bits_and a b) ∙ is_empty_intersection (bits a) (bits b) in
    (refl, (λ none. grind (arith, nat_tests), λ apart. grind (arith, nat_tests)))

pub and_ones : (a m : ℕ) → (bits (bit_and a m) ≡ bits (bit_and a m)) × (suc m ≡ 2 ^ low_zeros 128 (suc m) → bits m ≡ below (low_zeros 128 (suc m)))
and_ones a m = (refl, bits_ones m)

-- what it proves: facts of the bits of an integer that is masked
pub ruleset masks = (and_none, and_ones, masked_tells, and_not, or_and_not, bits_and, bits_or, bits_xor)
