use Rattle.std.proofs.Common.{◌≡◌, ◌<◌, ◌≤◌, ℕ, ◌+◌, ◌-◌, ◌*◌, ◌/◌, ◌^◌, ◌&&◌, Bool, true, ap, ◌∙◌, arith, nat_le, nat_lt, w64, bit_and}
use Rattle.std.proofs.lemmas.Bool.Decides.{nat_tests}
use Rattle.std.proofs.lemmas.Nat.{and_le_l}
use Rattle.std.specs.Int.{bit_not}
use Rattle.enumset_repr.specs.BitSet.{BitSet, contains, empty, retain, difference, is_subset, below}
use Rattle.enumset_repr.specs.Laws.Members.{members, same_set, member_below, contains_is_subset}
use Rattle.enumset_repr.specs.Laws.Numbers.{bits_and, bits_and_not}
use Rattle.enumset_repr.specs.Laws.Words.{contains_bits_word, contains_with_word}
use Rattle.enumset_repr.specs.Number.{bits}
use Rattle.enumset_repr.specs.Words.{word, with_word}
use Rattle.enumset_sets.proofs.enum_set.EnumSet+T.range.Goals as goal

module _ (s : BitSet) (first last : ℕ) where
  abbrev so_far : ℕ → BitSet
  so_far i = retain s (λ q. (nat_le first q && nat_le q last) && nat_lt q (64 * i))

  none : (i : ℕ) → 64 * i ≤ first → empty ≡ so_far i
  none i start = same_set _ _ (λ q. grind (arith, nat_tests, members))

  all : (i : ℕ) → last / 64 + 1 ≤ i → so_far i ≡ retain s (λ q. nat_le first q && nat_le q last)
  all i end = same_set _ _ (λ q. let under : last < 64 * i = omega (arith, end) in grind (arith, nat_tests, members))

  next : (width i w before past : ℕ) (u : BitSet) → is_subset s (below width) ≡ true → u ≡ so_far i → w ≡ word s i → w < 2 ^ 64 → past < 2 ^ 64
      → bits before ≡ difference (below 64) (below (first - 64 * i)) → bits past ≡ difference (below 64) (below (last + 1 - 64 * i)) → with_word u width i (bit_and (bit_and w before) (bit_not w64 past)) ≡ so_far (i + 1)
  next width i w before past u within begun is fits fits_past from to = same_set _ _ (λ q.
      let x : ℕ = bit_and (bit_and w before) (bit_not w64 past) in
      let b : ℕ = q - 64 * i in
      let there = λ (start : 64 * i ≤ q). (let e : 64 * i + b ≡ q = omega (arith, start) in ap (contains s) e) in
      let cut = ap (λ t. contains t b) (bits_and_not 64 (bit_and w before) past (omega (arith, fits, and_le_l w before)) fits_past ∙ ap (λ t. difference t (bits past)) (bits_and w before)) in
      let here = ap (λ n. contains (bits n) b) is ∙ contains_bits_word s i b in
      let lower = ap (λ t. contains t b) from in
      let upper = ap (λ t. contains t b) to in
      let old = ap (λ t. contains t q) begun in
      let under = member_below s width q within in
      contains_with_word u width i x q ∙ grind (arith, nat_tests, members))

part : (s v t : BitSet) (p : ℕ → Bool) → t ≡ retain s p → s ≡ v → is_subset t v ≡ true
part s v t p is all = contains_is_subset t v (λ q one. let here = ap (λ u. contains u q) is in let there = ap (λ u. contains u q) all in grind (arith, members))

pub loop-i-init : goal.loop-i-init
loop-i-init g c = ap g.T.Repr.EnumSetTypeRepr.members c.EMPTY-range.ensures ∙ g.met.T.Repr.EnumSetTypeRepr.represents.no_member ∙ none _ _ _ _ (omega arith)

pub loop-i-preserved : goal.loop-i-preserved
loop-i-preserved g c = c.put_word.ensures ∙ next _ _ _ _ _ _ _ _ _ (g.met.T.Repr.EnumSetTypeRepr.represents.within _ c.valid_repr-all.ensures.is_value) c.loop-i.invariant c.word.ensures c.word.type_inv c.ones_from-past.type_inv
    (c.ones_from-before.ensures ∙ ap (λ k. difference (below 64) (below k)) c.saturating_sub.ensures)
    (c.ones_from-past.ensures ∙ ap (λ k. difference (below 64) (below k)) c.saturating_sub-in-loop-i.ensures)

pub of_repr-requires : goal.of_repr-requires
of_repr-requires g c = part _ _ _ _ c.loop-i.invariant c.valid_repr-all.ensures.members

pub returns : goal.returns
returns g c = c.of_repr.ensures ∙ c.loop-i.invariant ∙ all _ _ _ _ (omega (arith, c.bit_index-last.ensures.within, c.loop-i-test.false, g.met.T.Repr.EnumSetTypeRepr.represents.word_count)) ∙ (λ i. retain (c.valid_repr-all.ensures.members i) (λ q. nat_le (c.bit_index-first.ensures.bit i) q && nat_le q (c.bit_index-last.ensures.bit i)))
