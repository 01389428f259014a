-- The least and the greatest member of a set, by the words of the set.
use Rattle.std.proofs.Common.{◌≡◌, ◌≢◌, ◌<◌, ◌≤◌, ℕ, ◌+◌, ◌-◌, ◌*◌, ◌/◌, ◌^◌, false, Some, None, sym, ap, ◌∙◌, ◌&&◌, inl, inr, true, arith, nat_lt}
use Rattle.std.proofs.lemmas.Bool.{cases_lt}
use Rattle.std.proofs.lemmas.Bool.Decides.{nat_tests}
use Rattle.std.specs.Int.Count.{count_trailing_zeros, count_leading_zeros}
use Rattle.enumset_repr.specs.BitSet.{BitSet, contains, empty, below, difference, is_subset}
use Rattle.enumset_repr.specs.Ends.{least, greatest}
use Rattle.enumset_repr.specs.Laws.Ends.{least_is, least_empty, greatest_is, greatest_empty}
use Rattle.enumset_repr.specs.Laws.Members.{members, same_set, contains_difference, contains_empty, contains_below, contains_past}
use Rattle.enumset_repr.specs.Laws.Numbers.{contains_bits_shifted, least_bits, greatest_bits}
use Rattle.enumset_repr.specs.Laws.WordLists.{by_word, contains_zero}
use Rattle.enumset_repr.specs.Laws.Words.{contains_bits_word}
use Rattle.enumset_repr.specs.Number.{bits}
use Rattle.enumset_repr.specs.Words.{word}
use Rattle.enumset_repr.proofs.ZeroWords.{NoneIn}

module _ (s : BitSet) where
  -- words that are 0 have no members
  pub no_member : (from to : ℕ) → NoneIn (word s) from to → (q : ℕ) → 64 * from ≤ q → q < 64 * to → contains s q ≡ false
  no_member from to none = by_word (λ q. 64 * from ≤ q → q < 64 * to → contains s q ≡ false) (λ w b small start end.
      let zero = contains_zero (word s w) b (none w (omega (arith, small, start)) (omega (arith, end))) in grind (arith, nat_tests, contains_bits_word s w b))

  -- a word without its k lowest bits has the members from there to the end of the word
  shifted : (i k x q : ℕ) → x ≡ word s i / 2 ^ k → 64 * i + k ≤ q → contains (bits x) (q - (64 * i + k)) ≡ (contains s q && nat_lt q (64 * i + 64))
  shifted i k x q is past =
      let b : ℕ = q - (64 * i + k) in
      let e : 64 * i + (k + b) ≡ q = omega (arith, past) in
      ap (λ n. contains (bits n) b) is ∙ contains_bits_shifted (word s i) k b ∙ contains_bits_word s i (k + b) ∙ ap (λ p. contains s p && nat_lt (k + b) 64) e ∙ grind (arith, nat_tests)

  -- the least member from a number on, where x is the first word that is not 0 once its k lowest bits are dropped
  pub least_at : (from start i k x : ℕ) → start ≡ 64 * i + k → from ≤ start → ((q : ℕ) → from ≤ q → q < start → contains s q ≡ false) → x ≡ word s i / 2 ^ k → x ≢ 0 → x < 2 ^ 64
      → Some (start + count_trailing_zeros 64 x) ≡ least (difference s (below from))
  least_at from start i k x place after none is some fits =
      let facts = least_bits 64 x (omega (arith, some)) fits in
      let m : ℕ = start + count_trailing_zeros 64 x in
      let same : m - (64 * i + k) ≡ count_trailing_zeros 64 x = omega (arith, place) in
      let one = ap (contains (bits x)) same ∙ facts.0 in
      let there = shifted i k x m is (omega (arith, place)) in
      sym (least_is _ m (grind (arith, nat_tests, contains_difference, contains_below)) (λ q under.
      let before = none q in
      let lower = facts.1 (q - (64 * i + k)) in
      let here = shifted i k x q is in
      grind (arith, nat_tests, contains_difference s (below from) q, contains_below from q)))

  -- a word that is 0 without its k lowest bits has no members from there on
  pub least_past : (i k x : ℕ) → k < 64 → x ≡ word s i / 2 ^ k → x ≡ 0 → difference s (below (64 * (i + 1))) ≡ difference s (below (64 * i + k))
  least_past i k x low is none = same_set _ _ (λ q.
      let here = shifted i k x q is in
      let zero = contains_zero x (q - (64 * i + k)) none in
      grind (arith, nat_tests, members))

  least_none : (from : ℕ) → ((q : ℕ) → from ≤ q → contains s q ≡ false) → None ≡ least (difference s (below from))
  least_none from none = sym (ap least (same_set _ _ (λ q. let past = none q in grind (arith, members, nat_tests))) ∙ least_empty)

  pub greatest_at : (i x : ℕ) → ((q : ℕ) → 64 * (i + 1) ≤ q → contains s q ≡ false) → x ≡ word s i → x ≢ 0 → x < 2 ^ 64 → Some (64 * i + (63 - count_leading_zeros 64 x)) ≡ greatest s
  greatest_at i x none is some fits =
      let facts = greatest_bits 64 x (omega (arith, some)) fits in
      let each = λ (b : ℕ). ap (λ n. contains (bits n) b) is ∙ contains_bits_word s i b in
      let one = each (63 - count_leading_zeros 64 x) in
      sym (greatest_is _ _ (grind (arith, nat_tests, one, facts.1)) (λ q over.
      let past = none q in
      let there = λ (from : 64 * i ≤ q). (let e : 64 * i + (q - 64 * i) ≡ q = omega (arith, from) in ap (contains s) e) in
      let upper = facts.2 (q - 64 * i) in
      let here = each (q - 64 * i) in
      grind (arith, nat_tests)))

  greatest_none : ((q : ℕ) → contains s q ≡ false) → None ≡ greatest s
  greatest_none none = sym (ap greatest (same_set s empty (λ q. none q ∙ sym (contains_empty q))) ∙ greatest_empty)

  -- where each word up to the last is 0
  module _ (width n : ℕ) (within : is_subset s (below width) ≡ true) (count : n ≡ (width + 63) / 64) where
    pub none_from : (from i : ℕ) → NoneIn (word s) from i → n ≤ i → (q : ℕ) → 64 * from ≤ q → contains s q ≡ false
    none_from from i none end q start = elim (cases_lt q (64 * n)) [
      | inl low ↦ no_member from i none q start (omega (arith, low, end))
      | inr past ↦ contains_past s width q within (omega (arith, past, count))
    ]

    pub least_nowhere : (from i : ℕ) → NoneIn (word s) from i → n ≤ i → None ≡ least (difference s (below (64 * from)))
    least_nowhere from i none end = least_none (64 * from) (none_from from i none end)

    pub greatest_nowhere : NoneIn (word s) 0 n → None ≡ greatest s
    greatest_nowhere none = greatest_none (λ q. none_from 0 n none (omega arith) q (omega arith))
