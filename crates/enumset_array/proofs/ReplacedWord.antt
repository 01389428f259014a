-- The words of an `ArrayRepr` after one of them is replaced.
use Rattle.std.proofs.Common.{nat_lt, ◌||◌, ◌≡◌, ◌≢◌, ◌<◌, ℕ, ◌*◌, ◌+◌, ◌-◌, ◌/◌, ◌%◌, ◌^◌, true, false, not, List, set, bit_and, bit_or, refl, sym, ap, ◌∙◌, subst, arith, w64, length-set, ◌==◌, slice_index, get_or-set_same, get_or-set_other, drop-set-lt}
use Rattle.std.proofs.Math.Nat.{div-add-mod}
use Rattle.std.proofs.Math.Pow.{ones_sub-lt}
use Rattle.std.proofs.lemmas.Bool.Decides.{nat_tests}
use Rattle.std.proofs.lemmas.Nat.{or_lt}
use Rattle.std.specs.Int.{bit_not}
use Rattle.std.specs.Int.Bits.{and_lt}
use Rattle.std.specs.List.{list_all}
use Rattle.enumset_repr.specs.BitSet.{BitSet, contains, insert, remove}
use Rattle.enumset_repr.specs.Laws.Members.{contains_insert, contains_remove}
use Rattle.enumset_repr.specs.Laws.Numbers.{bits_set, bits_clear, bits_test}
use Rattle.enumset_repr.specs.Laws.WordLists.{contains_bits_above}
use Rattle.enumset_repr.specs.Laws.Words.{contains_with_word}
use Rattle.enumset_repr.specs.Number.{bits}
use Rattle.enumset_repr.specs.Words.{with_word}
use Rattle.enumset_array.specs.declared.array_repr.TheConstants.{WORD_LIMIT}
use Rattle.enumset_array.specs.ArrayWords.{in_use, set_of, is_zero_past, IsArrayRepr}
use Rattle.enumset_array.specs.Laws.ArrayWords.{contains_set_of, set_is}

-- what holds at one place and at each other place holds at all
pub at_or_apart : (P : ℕ → Type 0) (i : ℕ) → P i → ((j : ℕ) → j ≢ i → P j) → (j : ℕ) → P j
at_or_apart P i here apart j = elim (j == i) as (λ t. (j == i) ≡ t → P j) [
  | true ↦ λ e. let same : i ≡ j = grind (arith, nat_tests, e) in subst P same here
  | false ↦ λ e. apart j (grind (arith, nat_tests, e))
] refl

module _ (n : ℕ) (ws : List ℕ) (i x : ℕ) (is_repr : IsArrayRepr n ws) (low : i < in_use n) (fits : x < 2 ^ 64) where
  placed : slice_index (set ws i x) i ≡ x
  placed = get_or-set_same ws i x 0 (omega (arith, low, is_repr.long))

  kept : (k : ℕ) → k ≢ i → slice_index (set ws i x) k ≡ slice_index ws k
  kept k apart = get_or-set_other ws i k x 0 apart

  pub set_repr : IsArrayRepr n (set ws i x)
  unfolding is_zero_past
  set_repr = record {
    long = length-set ws i x ∙ is_repr.long;
    fit = at_or_apart (λ k. slice_index (set ws i x) k < 2 ^ 64) i (subst (λ y. y < 2 ^ 64) (sym placed) fits) (λ k apart. subst (λ y. y < 2 ^ 64) (sym (kept k apart)) (is_repr.fit k));
    past = ap (λ zs. nat_lt n WORD_LIMIT || list_all (λ w. w == 0) zs) (drop-set-lt (in_use n) ws i x low) ∙ is_repr.past;
  }

  -- with x as word i, the words represent s, if s has the bits of x in this word and those of ws in each other word
  pub set_at : (s : BitSet) → ((b : ℕ) → b < 64 → contains (bits x) b ≡ contains s (64 * i + b))
      → ((w b : ℕ) → w ≢ i → b < 64 → contains (set_of n ws) (64 * w + b) ≡ contains s (64 * w + b)) → IsArrayRepr n (set ws i x) × (set_of n (set ws i x) ≡ s)
  set_at s here elsewhere = (
    set_repr,
    set_is n (set ws i x) s set_repr (at_or_apart (λ w. (b : ℕ) → b < 64 → contains (bits (slice_index (set ws i x) w)) b ≡ contains s (64 * w + b)) i
        (λ b small. ap (λ y. contains (bits y) b) placed ∙ here b small)
        (λ w apart b small. ap (λ y. contains (bits y) b) (kept w apart) ∙ sym (contains_set_of n ws w b is_repr small) ∙ elsewhere w b apart small)),
  )

module _ (n : ℕ) (ws : List ℕ) (bit : ℕ) (is_repr : IsArrayRepr n ws) where
  abbrev i : ℕ
  i = bit / 64

  abbrev one : ℕ
  one = 1 * 2 ^ (bit % 64) % 2 ^ 64

  pub insert_bit : bit < 64 * in_use n → let made = set ws i (bit_or (slice_index ws i) one) in IsArrayRepr n made × (set_of n made ≡ insert (set_of n ws) bit)
  insert_bit within = set_at n ws i _ is_repr (omega arith) (or_lt 64 _ _ (is_repr.fit i) (omega arith)) (insert (set_of n ws) bit)
      (λ b under. ap (λ s. contains s b) (bits_set 64 (slice_index ws i) (bit % 64) (omega arith))
      ∙ grind (arith, nat_tests, contains_insert (bits (slice_index ws i)) (bit % 64) b, contains_set_of n ws i b is_repr under, contains_insert (set_of n ws) bit (64 * i + b)))
      (λ w b apart under. grind (arith, nat_tests, contains_insert (set_of n ws) bit (64 * w + b)))

  pub remove_bit : bit < 64 * in_use n → let made = set ws i (bit_and (slice_index ws i) (bit_not w64 one)) in IsArrayRepr n made × (set_of n made ≡ remove (set_of n ws) bit)
  remove_bit within = set_at n ws i _ is_repr (omega arith) (and_lt 64 _ _ (is_repr.fit i) (ones_sub-lt 64 one)) (remove (set_of n ws) bit)
      (λ b under. ap (λ s. contains s b) (bits_clear 64 (slice_index ws i) (bit % 64) (is_repr.fit i) (omega arith))
      ∙ grind (arith, nat_tests, contains_remove (bits (slice_index ws i)) (bit % 64) b, contains_set_of n ws i b is_repr under, contains_remove (set_of n ws) bit (64 * i + b)))
      (λ w b apart under. grind (arith, nat_tests, contains_remove (set_of n ws) bit (64 * w + b)))

  pub test_bit : not (bit_and (slice_index ws i) one == 0) ≡ contains (set_of n ws) bit
  test_bit =
      sym (bits_test 64 (slice_index ws i) (bit % 64) (omega arith)) ∙ sym (contains_set_of n ws i (bit % 64) is_repr (omega arith))
      ∙ ap (contains (set_of n ws)) (div-add-mod bit 64)

pub put_word : (n : ℕ) (ws : List ℕ) (i x : ℕ) → IsArrayRepr n ws → i < in_use n → x < 2 ^ 64 → set_of n (set ws i x) ≡ with_word (set_of n ws) (64 * in_use n) i x
put_word n ws i x is_repr low fits = (set_at n ws i x is_repr low fits (with_word (set_of n ws) (64 * in_use n) i x)
    (λ b under. let place : 64 * i + b - 64 * i ≡ b = omega arith in grind (arith, nat_tests, contains_with_word (set_of n ws) (64 * in_use n) i x (64 * i + b)))
    (λ w b apart under.
    let above = contains_bits_above x 64 (64 * w + b - 64 * i) fits in
    grind (arith, nat_tests, contains_with_word (set_of n ws) (64 * in_use n) i x (64 * w + b)))).1
