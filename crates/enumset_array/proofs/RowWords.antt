-- The words of a row after one of them is replaced, and a count of bits word by word.
use Rattle.std.proofs.Common.{◌≡◌, ◌<◌, ℕ, ◌+◌, ◌^◌, List, [], ◌∷◌, ◌++◌, length, take, set, refl, sym, ap, subst, ◌∙◌, arith, add-one, zero-add, slice_index, sum_by, Option, Some, None, MatchOption, length-take, get_or-set_same}
use Rattle.std.proofs.Math.Seq.{take-add, take-set-lt, take-suc}
use Rattle.std.proofs.lemmas.List.Sums.{sum_by-append}
use Rattle.std.specs.Int.RustNames.{count_ones}
use Rattle.std.specs.Simd.Lanes.{chunk}
use Rattle.enumset_repr.specs.BitSet.{len, ascending}
use Rattle.enumset_repr.specs.Laws.Numbers.{len_bits}
use Rattle.enumset_repr.specs.Number.{bits}
use Rattle.enumset_array.proofs.ReplacedWord.{set_repr}
use Rattle.enumset_array.proofs.TakenOut.{by_first, by_last, small}
use Rattle.enumset_array.specs.ArrayWords.{in_use, words_in_use, IsArrayRepr}

-- ---- one word replaced

module _ (n : ℕ) (ws us : List ℕ) (i x : ℕ) (same : words_in_use n ws ≡ us) (low : i < length us) where
  low_use : i < in_use n
  low_use = omega (arith, low, ap length same, length-take (in_use n) ws)

  pub row_others : words_in_use n (set ws i x) ≡ set us i (slice_index (words_in_use n (set ws i x)) i)
  row_others =
      let row : words_in_use n (set ws i x) ≡ set us i x = take-set-lt (in_use n) ws i x low_use ∙ ap (λ l. set l i x) same in
      row ∙ ap (set us i) (sym (ap (λ xs. slice_index xs i) row ∙ get_or-set_same us i x 0 low))

  pub row_repr : IsArrayRepr n ws → x < 2 ^ 64 → IsArrayRepr n (set ws i x)
  row_repr is_repr fits = set_repr n ws i x is_repr low_use fits

-- ---- a word after a step took out a bit, which `joined` puts back at its end

abbrev pub Gives : (ℕ → List ℕ → List ℕ) → ℕ → Option ℕ → ℕ → Type 0
Gives joined x r y = MatchOption r (x ≡ 0) (λ b. ascending (bits x) ≡ joined b (ascending (bits y)))

pub front_fits : (x y : ℕ) (r : Option ℕ) → x < 2 ^ 64 → Gives (λ b bs. b ∷ bs) x r y → (r ≡ None → y ≡ x) → y < 2 ^ 64
front_fits x y None fits _ same = subst (λ m. m < 2 ^ 64) (sym (same refl)) fits
front_fits x y (Some b) fits first _ = small x y 64 b fits (by_first _ _ b first)

pub back_fits : (x y : ℕ) (r : Option ℕ) → x < 2 ^ 64 → Gives (λ b bs. bs ++ b ∷ []) x r y → (r ≡ None → y ≡ x) → y < 2 ^ 64
back_fits x y None fits _ same = subst (λ m. m < 2 ^ 64) (sym (same refl)) fits
back_fits x y (Some b) fits last _ = small x y 64 b fits (by_last _ _ b last)

-- ---- the bits counted word by word

abbrev pub bits_in : List ℕ → ℕ
bits_in ws = sum_by (λ w. len (bits w)) ws

pub one_more : (ws : List ℕ) (i j : ℕ) → j ≡ i + 1 → i < length ws → bits_in (take j ws) ≡ bits_in (take i ws) + count_ones (slice_index ws i)
one_more ws i j next low =
    ap (λ k. bits_in (take k ws)) (next ∙ add-one i) ∙ ap bits_in (take-suc ws i 0 low)
    ∙ sum_by-append (λ w. len (bits w)) (take i ws) (slice_index ws i ∷ [])
    ∙ ap (λ m. bits_in (take i ws) + m) (zero-add (len (bits (slice_index ws i))) ∙ len_bits (slice_index ws i))

-- four words, as a chunk
pub four_ones : (ws : List ℕ) → length ws ≡ 4
    → bits_in ws ≡ count_ones (slice_index ws 0) + count_ones (slice_index ws 1) + count_ones (slice_index ws 2) + count_ones (slice_index ws 3)
four_ones (a ∷ b ∷ c ∷ d ∷ []) e = omega (arith, len_bits a, len_bits b, len_bits c, len_bits d)
four_ones ws e = absurd (omega (arith, e))

pub four_more : (ws : List ℕ) (i j : ℕ) → j ≡ i + 4 → bits_in (take j ws) ≡ bits_in (take i ws) + bits_in (chunk i 4 ws)
four_more ws i j next = ap (λ k. bits_in (take k ws)) next ∙ ap bits_in (take-add i 4 ws) ∙ sum_by-append (λ w. len (bits w)) (take i ws) (chunk i 4 ws)
