-- The words of an `ArrayRepr` that an operation makes, word by word, from the words of one or two others.
use Rattle.std.proofs.Common.{◌≡◌, ◌<◌, ◌≤◌, ◌↔◌, ℕ, ◌*◌, ◌+◌, ◌^◌, false, ◌-◌, List, ◌++◌, length, drop, sym, ap, ◌∙◌, subst, arith, w64, ◌==◌, slice_index, nat_eq, map, IsTrue, get_or-take, get_or-drop, length-append, length-take, length-drop}
use Rattle.std.proofs.Math.Pow.{ones_sub-lt}
use Rattle.std.proofs.lemmas.Bool.Decides.{nat_tests, same_from_decides}
use Rattle.std.proofs.lemmas.List.{get_or_past, get_or_append_left, get_or-append_right, get_or-map, length-map}
use Rattle.std.proofs.lemmas.Simd.{length-zip2, get_or-zip2}
use Rattle.std.specs.Cmp.Lexicographic.{pointwise}
use Rattle.std.specs.Int.{bit_not}
use Rattle.std.specs.List.{list_all}
use Rattle.std.specs.Simd.Lanes.{zip2}
use Rattle.enumset_repr.specs.BitSet.{BitSet, contains, empty, below, difference, is_same}
use Rattle.enumset_repr.specs.Laws.Members.{contains_below, contains_difference, is_same_iff}
use Rattle.enumset_repr.specs.Laws.Numbers.{bits_not}
use Rattle.enumset_repr.specs.Laws.WordLists.{contains_zero}
use Rattle.enumset_repr.specs.Number.{bits}
use Rattle.enumset_array.specs.ArrayWords.{in_use, words_in_use, set_of, IsArrayRepr}
use Rattle.enumset_array.specs.Laws.ArrayWords.{contains_set_of, set_is, past_is, empty_past, none_iff, equal}
use Rattle.enumset_array.specs.Operations.{IsOnBits}

module _ (op : ℕ → ℕ → ℕ) (of_sets : BitSet → BitSet → BitSet) (on : IsOnBits op of_sets) (n : ℕ) (a b : List ℕ) (first : IsArrayRepr n a) (second : IsArrayRepr n b) where
  none_past : (k : ℕ) → in_use n ≤ k → op (slice_index a k) (slice_index b k) ≡ 0
  none_past k past = (λ i. op (past_is n a k first past i) (past_is n b k second past i)) ∙ on.none

  length-made : length (zip2 op a b) ≡ n
  length-made = length-zip2 op a b (first.long ∙ sym second.long) ∙ first.long

  each : (k : ℕ) → slice_index (zip2 op a b) k ≡ op (slice_index a k) (slice_index b k)
  each k =
      let low = get_or-zip2 op a b k 0 0 0 in
      let past = get_or_past (zip2 op a b) k 0 in
      let none = none_past k in
      grind (arith, first.long, second.long, length-made)

  pub made_repr : IsArrayRepr n (zip2 op a b)
  made_repr = record {
    long = length-made;
    fit = λ k. subst (λ x. x < 2 ^ 64) (sym (each k)) (on.fits _ _ (first.fit k) (second.fit k));
    past = empty_past n (zip2 op a b) (λ k past. each k ∙ none_past k past);
  }

  pub made_set : set_of n (zip2 op a b) ≡ of_sets (set_of n a) (set_of n b)
  made_set = set_is n (zip2 op a b) _ made_repr (λ w q small.
      ap (λ x. contains (bits x) q) (each w) ∙ ap (λ s. contains s q) (on.same _ _ (first.fit w) (second.fit w)) ∙ on.member _ _ q
      ∙ (λ i. on.test (sym (contains_set_of n a w q first small) i) (sym (contains_set_of n b w q second small) i))
      ∙ sym (on.member (set_of n a) (set_of n b) (64 * w + q)))

  -- the result is empty exactly if each of its words is 0
  pub made_none : IsTrue (list_all (λ w. w == 0) (zip2 op a b)) ↔ (of_sets (set_of n a) (set_of n b) ≡ empty)
  made_none = subst (λ s. IsTrue (list_all (λ w. w == 0) (zip2 op a b)) ↔ (s ≡ empty)) made_set (none_iff n _ made_repr)

  -- the words stay the same exactly if the set does
  pub made_same : pointwise nat_eq a (zip2 op a b) ≡ is_same (set_of n a) (of_sets (set_of n a) (set_of n b))
  made_same = subst (λ s. pointwise nat_eq a (zip2 op a b) ≡ is_same (set_of n a) s) made_set (same_from_decides _ _ (equal n a _ first made_repr) (is_same_iff _ _))

-- ---- `!`: the words in use are inverted, and the others stay

abbrev pub inverted : ℕ → List ℕ → List ℕ
inverted n a = map (bit_not w64) (words_in_use n a) ++ drop (in_use n) a

module _ (n : ℕ) (a : List ℕ) (first : IsArrayRepr n a) where
  abbrev front : List ℕ
  front = map (bit_not w64) (words_in_use n a)

  length-used : length (words_in_use n a) ≡ in_use n
  length-used = omega (arith, length-take (in_use n) a, first.long)

  length-front : length front ≡ in_use n
  length-front = length-map (words_in_use n a) (bit_not w64) ∙ length-used

  turned : (k : ℕ) → k < in_use n → slice_index (inverted n a) k ≡ bit_not w64 (slice_index a k)
  turned k low =
      get_or_append_left front (drop (in_use n) a) 0 k (omega (arith, low, length-front))
      ∙ get_or-map (bit_not w64) (words_in_use n a) k 0 0 (omega (arith, low, length-used))
      ∙ ap (bit_not w64) (get_or-take (in_use n) a k 0 low)

  none : (k : ℕ) → in_use n ≤ k → slice_index (inverted n a) k ≡ 0
  none k past =
      let place : in_use n + (k - in_use n) ≡ k = omega (arith, past) in
      get_or-append_right front (drop (in_use n) a) (in_use n) k 0 length-front past
      ∙ get_or-drop (in_use n) a (k - in_use n) 0 ∙ ap (slice_index a) place ∙ past_is n a k first past

  pub inverted_repr : IsArrayRepr n (inverted n a)
  inverted_repr = record {
    long = omega (arith, length-append front (drop (in_use n) a), length-front, length-drop (in_use n) a, first.long);
    fit = λ k. let low = turned k in let past = none k in grind (arith, ones_sub-lt 64 (slice_index a k));
    past = empty_past n (inverted n a) none;
  }

  pub inverted_set : set_of n (inverted n a) ≡ difference (below (64 * in_use n)) (set_of n a)
  inverted_set = set_is n (inverted n a) _ inverted_repr (λ w q small.
      let low : w < in_use n → contains (bits (slice_index (inverted n a) w)) q ≡ contains (difference (below 64) (bits (slice_index a w))) q
      = λ under. ap (λ x. contains (bits x) q) (turned w under) ∙ ap (λ s. contains s q) (bits_not 64 (slice_index a w) (first.fit w)) in
      let past : in_use n ≤ w → contains (bits (slice_index (inverted n a) w)) q ≡ false = λ over. contains_zero _ q (none w over) in
      grind (arith, nat_tests, contains_difference, contains_below, contains_set_of n a w q first small))
