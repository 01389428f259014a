-- What a cut at a width leaves of a set, and a set taken through words.
--     number_uncut      a cut at a width does not change the number of a set below this width
--     low_held      a cut at a width that a set of valid bits fits does not change this set
--     low_part_within      a subset of v stays a subset of v after a cut
--     bits_masked      the bits that a number shares with the number of a set, after a cut at the number's width
--     words_within      the words of a set up to its last member represent that set
--     words_of_repr      the first words of a set of valid bits, as many as its representation has, represent that set
-- The ruleset `conversions` has the first three, and what a cut at a width leaves of valid bits.
use Rattle.std.proofs.Common.{◌≡◌, ◌<◌, ℕ, ◌+◌, ◌*◌, ◌/◌, ◌^◌, true, bit_and, ap, ◌∙◌, arith, inl, inr}
use Rattle.std.proofs.lemmas.Bool.{cases_lt}
use Rattle.enumset_repr.specs.BitSet.{BitSet, intersection, is_subset, below, low}
use Rattle.enumset_repr.specs.Laws.Algebra.{is_subset_trans}
use Rattle.enumset_repr.specs.Laws.Members.{same_set, is_subset_contains, members}
use Rattle.enumset_repr.specs.Laws.Numbers.{bits_and, bits_number, bits_within}
use Rattle.enumset_repr.specs.Laws.Widths.{low_part, low_within, low_inside, low_intersection, is_subset_wider}
use Rattle.enumset_repr.specs.Laws.WordLists.{bits_of_words}
use Rattle.enumset_repr.specs.Number.{bits, number}
use Rattle.enumset_repr.specs.Words.{words, bits_of}

pub number_uncut : (s : BitSet) (n : ℕ) → is_subset s (below n) ≡ true → number (low s n) ≡ number s
number_uncut s n within = ap number (low_within s n within)

-- if v is below a width, a cut at this width does not change a subset of v, nor does a narrower cut that the subset
-- fits
pub low_held : (s v : BitSet) (width n : ℕ) → is_subset s v ≡ true → is_subset v (below width) ≡ true → (n < width → is_subset s (below n) ≡ true) → low s n ≡ s
low_held s v width n part bound fits = elim (cases_lt n width) [
  | inl narrow ↦ low_within s n (fits narrow)
  | inr wide ↦ low_within s n (is_subset_wider s width n wide (is_subset_trans s v (below width) part bound))
]

pub low_part_within : (s v : BitSet) (n : ℕ) → is_subset s v ≡ true → is_subset (low s n) v ≡ true
low_part_within s v n within = is_subset_trans (low s n) s v (low_part s n) within

pub bits_masked : (v : ℕ) (s : BitSet) (n : ℕ) → v < 2 ^ n → bits (bit_and v (number (low s n))) ≡ intersection (bits v) s
bits_masked v s n small =
    bits_and v (number (low s n)) ∙ ap (intersection (bits v)) (bits_number (low s n))
    ∙ same_set _ _ (λ q. let each = is_subset_contains (bits v) (below n) (bits_within v n small) q in grind (arith, members))

pub words_within : (s : BitSet) (n : ℕ) → is_subset s (below (64 * n)) ≡ true → bits_of (words s n) ≡ s
words_within s n within = bits_of_words s n ∙ low_within s (64 * n) within

pub words_of_repr : (s v : BitSet) (n width : ℕ) → n ≡ (width + 63) / 64 → is_subset v (below width) ≡ true → is_subset s v ≡ true → bits_of (words s n) ≡ s
words_of_repr s v n width is bound part =
    words_within s n (is_subset_wider s width (64 * n) (omega (arith, is)) (is_subset_trans s v (below width) part bound))

pub ruleset conversions = (number_uncut, low_part_within, low_held, low_inside, low_intersection)
