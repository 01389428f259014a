-- The least or the greatest bit, taken out of one word of a list.
use Rattle.std.proofs.Common.{◌≡◌, ◌<◌, ◌≤◌, ◌≢◌, ℕ, ◌+◌, ◌*◌, ◌^◌, true, false, List, [], ◌∷◌, ◌++◌, Some, length, length-set, set, sym, ap, ◌∙◌, subst, arith, lit<, slice_index, get_or-set_other}
use Rattle.std.proofs.lemmas.Bool.Decides.{nat_tests}
use Rattle.enumset_repr.specs.BitSet.{BitSet, contains, ascending, remove, from_list}
use Rattle.enumset_repr.specs.Laws.Algebra.{from_list_ascending}
use Rattle.enumset_repr.specs.Laws.Ascending.{ascending_first, ascending_last, ascending_empty}
use Rattle.enumset_repr.specs.Laws.Firsts.{first_member, first_least, first_rest, last_member, last_greatest, last_rest}
use Rattle.enumset_repr.specs.Laws.Members.{same_set, contains_remove, remove_is_subset, member_below}
use Rattle.enumset_repr.specs.Laws.Numbers.{bits_within, number_bits, number_within}
use Rattle.enumset_repr.specs.Laws.WordLists.{contains_bits_of, by_word, contains_zero, bits_of_zeros}
use Rattle.enumset_repr.specs.Number.{bits}
use Rattle.enumset_repr.specs.Words.{bits_of}
use Rattle.enumset_array.proofs.ReplacedWord.{at_or_apart}
use Rattle.enumset_array.specs.Cursors.{Reach, Covers}
use Rattle.enumset_array.specs.OneStep.{TakesOut}

-- b is a member of s, and t is s without it
pub record IsTaken (s : BitSet) (b : ℕ) (t : BitSet) : Type 0 where
  pub was : contains s b ≡ true
  pub rest : t ≡ remove s b

same_list : (s t : BitSet) → ascending s ≡ ascending t → s ≡ t
same_list s t same = sym (from_list_ascending s) ∙ ap from_list same ∙ from_list_ascending t

pub by_first : (s t : BitSet) (b : ℕ) → ascending s ≡ b ∷ ascending t → IsTaken s b t
by_first s t b first = record { was = first_member s b _ first; rest = same_list t _ (first_rest s b _ first) }

pub by_last : (s t : BitSet) (b : ℕ) → ascending s ≡ ascending t ++ b ∷ [] → IsTaken s b t
by_last s t b last = record { was = last_member s b _ last; rest = same_list t _ (last_rest s b _ last) }

-- ---- a word of k bits with one bit taken out is a word of k bits

pub small : (n m k b : ℕ) → n < 2 ^ k → IsTaken (bits n) b (bits m) → m < 2 ^ k
small n m k b fits taken = omega (arith, number_bits m, number_within (bits m) k (rw taken.rest (remove_is_subset _ _ b (bits_within n k fits))))

-- ---- a bit taken out of the word at i

module _ (us ws vs : List ℕ) (i b : ℕ) (fit : (j : ℕ) → slice_index ws j < 2 ^ 64) (others : vs ≡ set ws i (slice_index vs i)) (same : ws ≡ us) where
  module _ (taken : IsTaken (bits (slice_index ws i)) b (bits (slice_index vs i))) where
    same_word : (j : ℕ) → j ≢ i → slice_index vs j ≡ slice_index ws j
    same_word j apart = ap (λ xs. slice_index xs j) others ∙ get_or-set_other ws i j (slice_index vs i) 0 apart

    taken_fit : (j : ℕ) → slice_index vs j < 2 ^ 64
    taken_fit = at_or_apart (λ j. slice_index vs j < 2 ^ 64) i (small (slice_index ws i) (slice_index vs i) 64 b (fit i) taken) (λ j apart. omega (arith, same_word j apart, fit j))

    low_bit : b < 64
    low_bit = member_below (bits (slice_index ws i)) 64 b (bits_within (slice_index ws i) 64 (fit i)) taken.was

    was_there : contains (bits_of ws) (64 * i + b) ≡ true
    was_there = contains_bits_of ws i b fit low_bit ∙ taken.was

    taken_set : bits_of vs ≡ remove (bits_of ws) (64 * i + b)
    taken_set = same_set _ _ (by_word (λ q. contains (bits_of vs) q ≡ contains (remove (bits_of ws) (64 * i + b)) q) (λ w r under.
        let low = low_bit in
        let here = ap (λ s. contains s r) taken.rest ∙ contains_remove (bits (slice_index ws i)) b r in
        let other : w ≢ i → slice_index vs w ≡ slice_index ws w = same_word w in
        contains_bits_of vs w r taken_fit under
        ∙ grind (arith, nat_tests, contains_bits_of ws w r fit under, contains_remove (bits_of ws) (64 * i + b) (64 * w + r))))

    taken_out : TakesOut us (Some (64 * i + b)) vs
    taken_out = record { set = taken_set ∙ ap (λ l. remove (bits_of l) (64 * i + b)) same; len = ap length others ∙ length-set ws i _ ∙ ap length same }

  -- the least bit of the first word that is not 0 is the least of all
  pub first_taken : ascending (bits (slice_index ws i)) ≡ b ∷ ascending (bits (slice_index vs i)) → ((j : ℕ) → j < i → slice_index ws j ≡ 0)
      → (b < 64) × (ascending (bits_of us) ≡ (64 * i + b) ∷ ascending (bits_of vs)) × TakesOut us (Some (64 * i + b)) vs
  first_taken first lower =
      let taken = by_first _ _ b first in
      let low = low_bit taken in (
        low,
        ap (λ l. ascending (bits_of l)) (sym same) ∙ ascending_first (bits_of ws) (64 * i + b) (was_there taken) (by_word (λ q. q < 64 * i + b → contains (bits_of ws) q ≡ false) (λ w r small under.
            let least = first_least (bits (slice_index ws i)) b _ r first in
            let before : w < i → contains (bits (slice_index ws w)) r ≡ false = λ h. contains_zero _ r (lower w h) in
            contains_bits_of ws w r fit small ∙ grind (arith, nat_tests))) ∙ ap (λ s. (64 * i + b) ∷ ascending s) (sym (taken_set taken)),
        taken_out taken,
      )

  -- the greatest bit of the last word that is not 0 is the greatest of all
  pub last_taken : ascending (bits (slice_index ws i)) ≡ ascending (bits (slice_index vs i)) ++ b ∷ [] → ((j : ℕ) → i < j → slice_index ws j ≡ 0)
      → (b < 64) × (ascending (bits_of us) ≡ ascending (bits_of vs) ++ (64 * i + b) ∷ []) × TakesOut us (Some (64 * i + b)) vs
  last_taken last higher =
      let taken = by_last _ _ b last in
      let low = low_bit taken in (
        low,
        ap (λ l. ascending (bits_of l)) (sym same) ∙ ascending_last (bits_of ws) (64 * i + b) (was_there taken) (by_word (λ q. 64 * i + b < q → contains (bits_of ws) q ≡ false) (λ w r small over.
            let greatest = last_greatest (bits (slice_index ws i)) b _ r last in
            let past : i < w → contains (bits (slice_index ws w)) r ≡ false = λ h. contains_zero _ r (higher w h) in
            contains_bits_of ws w r fit small ∙ grind (arith, nat_tests))) ∙ ap (λ s. ascending s ++ (64 * i + b) ∷ []) (sym (taken_set taken)),
        taken_out taken,
      )

-- cursors that have met leave no item
pub none_left : (us ws : List ℕ) (c : Reach) → Covers ws c → c.back ≤ c.front → ws ≡ us → (ascending (bits_of us) ≡ []) × (ascending (bits_of ws) ≡ [])
none_left us ws c covers met same =
    let none : (i : ℕ) → slice_index ws i ≡ 0 = λ i. let before = covers.before i in let past = covers.past i in grind (arith, met) in
    let empty = ap ascending (bits_of_zeros ws (λ i. subst (λ n. n < 2 ^ 64) (sym (none i)) (lit< tt)) none) ∙ ascending_empty in
    (ap (λ l. ascending (bits_of l)) (sym same) ∙ empty, empty)
