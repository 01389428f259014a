-- A list of words as one number, the lowest word first.
--     value, AllFit      a list of words as one number;  each word has 64 bits
--     number_is      the words of an `ArrayRepr` and their set have the same number
--     len_bits_of      the number of members of the set of a list of words is the sum over its words
use Rattle.std.proofs.Common.{◌≡◌, ◌<◌, ℕ, suc, ◌+◌, ◌-◌, ◌*◌, ◌^◌, List, [], ◌∷◌, sym, ap, ◌∙◌, arith, refl, slice_index, sum_by}
use Rattle.std.proofs.lemmas.Bool.Decides.{nat_tests}
use Rattle.std.proofs.lemmas.List.Sums.{sum_by-cons}
use Rattle.std.proofs.lemmas.Nat.{ones_cat}
use Rattle.std.proofs.lemmas.Nat.Bits.{bit_at_cat_low, bit_at_cat_high}
use Rattle.std.specs.Int.RustNames.{count_ones}
use Rattle.enumset_repr.specs.BitSet.{contains, len}
use Rattle.enumset_repr.specs.Laws.Members.{same_set, contains_union}
use Rattle.enumset_repr.specs.Laws.Numbers.{bits_zero, contains_bits, number_bits, len_bits}
use Rattle.enumset_repr.specs.Laws.WordLists.{contains_bits_of, contains_bits_above}
use Rattle.enumset_repr.specs.Laws.Words.{contains_upward_shift}
use Rattle.enumset_repr.specs.Number.{bits, number}
use Rattle.enumset_repr.specs.Words.{bits_of, upward_shift}
use Rattle.enumset_array.specs.ArrayWords.{set_of, IsArrayRepr}
use Rattle.enumset_array.specs.Laws.ArrayWords.{set_is}

abbrev pub value : List ℕ → ℕ
value [] = 0
value (n ∷ ns) = value ns * 2 ^ 64 + n

abbrev pub AllFit : List ℕ → Type 0
AllFit ws = (i : ℕ) → slice_index ws i < 2 ^ 64

bits_of-value : (ws : List ℕ) → AllFit ws → bits_of ws ≡ bits (value ws)
unfolding bits_of
bits_of-value [] fit = sym bits_zero
bits_of-value (n ∷ ns) fit = same_set _ _ (λ q.
    let low = bit_at_cat_low (value ns) 64 n q in
    let high = bit_at_cat_high (value ns) 64 n q (fit 0) in
    let above = contains_bits_above n 64 q (fit 0) in
    let later = ap (λ s. contains s (q - 64)) (bits_of-value ns (λ i. fit (suc i))) in
    contains_union (bits n) (upward_shift (bits_of ns) 64) q
    ∙ grind (arith, nat_tests, contains_bits n q, contains_upward_shift (bits_of ns) 64 q, contains_bits (value ns) (q - 64), contains_bits (value ns * 2 ^ 64 + n) q))

pub number_is : (n : ℕ) (ws : List ℕ) → IsArrayRepr n ws → number (set_of n ws) ≡ value ws
number_is n ws is_repr = ap number (set_is n ws (bits_of ws) is_repr (λ w b small. sym (contains_bits_of ws w b is_repr.fit small)) ∙ bits_of-value ws is_repr.fit) ∙ number_bits (value ws)

ones_in_value : (ws : List ℕ) → AllFit ws → count_ones (value ws) ≡ sum_by (λ w. len (bits w)) ws
unfolding count_ones
ones_in_value [] fit = refl
ones_in_value (n ∷ ns) fit =
    omega (arith, ones_cat 64 (value ns) n (fit 0), ones_in_value ns (λ i. fit (suc i)), len_bits n, sum_by-cons (λ w. len (bits w)) n ns)

pub len_bits_of : (ws : List ℕ) → AllFit ws → len (bits_of ws) ≡ sum_by (λ w. len (bits w)) ws
len_bits_of ws fit = ap len (bits_of-value ws fit) ∙ len_bits (value ws) ∙ ones_in_value ws fit
