-- Laws of `low`, which cuts a set at a width, and of sets and numbers that fit a width. A set is below a width if each
-- of its members is.
--     low_is_subset, low_part      a cut set is below the width;  a cut set is a subset of the set before the cut
--     low_within, low_inside      a cut changes neither a set below the width nor a subset of such a set
--     within_from_low      a set that a cut does not change is below the width
--     low_narrow      two cuts, the second at a width that is not greater, are the same as the second
--     low_intersection, low_empty      the intersection of a cut set with a set below the width;  a cut of the empty
--         set
--     is_subset_wider      a set below a width is below each greater width
--     number_low, number_cut      the number of a cut set, as a remainder
--     fits_number      a set is below a width if its number fits;  the converse is `number_within`
--     cut_to, fits_in      a number cut by a mask of ones, and whether a set fits a width, for a tactic
-- The ruleset `cuts` has what a proof about sets and their numbers needs, `cuts_to` what calls to and from integers
-- need. A crate above cites one by `#[tactic(auto, using(enumset_repr::specs::Laws::Widths::cuts))]`.
use Rattle.std.proofs.Common.{◌≡◌, ◌<◌, ◌≤◌, ℕ, suc, ◌-◌, ◌%◌, ◌^◌, true, sym, ap, subst, ◌∙◌, arith, lt-ltb, ltb-true, nat_lt, bit_and}
use Rattle.std.proofs.lemmas.Bool.Decides.{nat_tests, same_from_decides}
use Rattle.std.proofs.lemmas.Grind.{low_zeros}
use Rattle.std.proofs.lemmas.Nat.{and_mask}
use Rattle.enumset_repr.specs.BitSet.{BitSet, empty, intersection, is_subset, below, low}
use Rattle.enumset_repr.specs.Number.{number}
use Rattle.enumset_repr.specs.Rules.Members.{decided}
use Rattle.enumset_repr.specs.Laws.Algebra.{is_subset_trans, intersection_right, difference_within, difference_none}
use Rattle.enumset_repr.specs.Laws.Counting.{is_empty_difference, is_empty_intersection}
use Rattle.enumset_repr.specs.Laws.Numbers.{bits_low, bits_number, number_bits, bits_within, number_within}

-- ---- the cut set

pub low_is_subset : (s : BitSet) (n : ℕ) → is_subset (low s n) (below n) ≡ true
low_is_subset s n = grind (arith, decided)

pub low_part : (s : BitSet) (n : ℕ) → is_subset (low s n) s ≡ true
low_part s n = grind (arith, decided)

pub low_within : (s : BitSet) (n : ℕ) → is_subset s (below n) ≡ true → low s n ≡ s
low_within s n within = grind (arith, decided)

pub low_inside : (s v : BitSet) (n : ℕ) → is_subset s v ≡ true → is_subset v (below n) ≡ true → low s n ≡ s
low_inside s v n part within = low_within s n (is_subset_trans s v (below n) part within)

pub within_from_low : (s : BitSet) (n : ℕ) → low s n ≡ s → is_subset s (below n) ≡ true
within_from_low s n same = subst (λ t. is_subset t (below n) ≡ true) same (low_is_subset s n)

pub low_narrow : (s : BitSet) (m n : ℕ) → n ≤ m → low (low s m) n ≡ low s n
low_narrow s m n less = grind (arith, decided)

pub low_intersection : (s v : BitSet) (n : ℕ) → is_subset v (below n) ≡ true → intersection (low s n) v ≡ intersection s v
low_intersection s v n within = grind (arith, decided)

pub low_empty : (n : ℕ) → low empty n ≡ empty
low_empty n = grind (arith, decided)

pub is_subset_wider : (s : BitSet) (m n : ℕ) → m ≤ n → is_subset s (below m) ≡ true → is_subset s (below n) ≡ true
is_subset_wider s m n less within = grind (arith, decided)

-- ---- its number

pub number_low : (s : BitSet) (n : ℕ) → number (low s n) ≡ number s % 2 ^ n
number_low s n = ap number (ap (λ t. low t n) (sym (bits_number s)) ∙ sym (bits_low (number s) n)) ∙ number_bits _

pub number_cut : (s : BitSet) (m n : ℕ) → n ≤ m → number (low s m) % 2 ^ n ≡ number (low s n)
number_cut s m n less = sym (number_low (low s m) n) ∙ ap number (low_narrow s m n less)

pub fits_number : (s : BitSet) (n : ℕ) → number s < 2 ^ n → is_subset s (below n) ≡ true
fits_number s n small = subst (λ t. is_subset t (below n) ≡ true) (bits_number s) (bits_within (number s) n small)

pub ruleset cuts = (low_is_subset, low_part, low_within, low_inside, within_from_low, low_intersection, low_empty, bits_number, number_bits, intersection_right, difference_within, difference_none)

-- ---- what a call to or from an integer needs. A tactic cannot find the width w in a literal 2 ^ w - 1: `low_zeros` of
-- the next number computes it.

-- the number of a set, cut by a mask of ones, like `n & 0xff`
pub cut_to : (s : BitSet) (m : ℕ) → suc m ≡ 2 ^ low_zeros 128 (suc m) → low_zeros 128 (suc m) ≤ 128 → bit_and (number (low s 128)) m ≡ number (low s (low_zeros 128 (suc m)))
cut_to s m e less =
    let ones : m ≡ 2 ^ low_zeros 128 (suc m) - 1 = omega (arith, e) in
    ap (bit_and (number (low s 128))) ones ∙ and_mask _ _ ∙ number_cut s 128 _ less

pub fits_in : (s : BitSet) (n : ℕ) → is_subset s (below n) ≡ nat_lt (number s) (2 ^ n)
fits_in s n = same_from_decides _ _ (number_within s n, fits_number s n) (ltb-true _ _, lt-ltb _ _)

pub ruleset cuts_to = (cut_to, fits_in, nat_tests, is_empty_difference, is_empty_intersection)
