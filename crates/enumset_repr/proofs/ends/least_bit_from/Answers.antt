use Rattle.std.proofs.Common.{◌≡◌, ◌≢◌, ◌<◌, ℕ, ◌+◌, ◌*◌, ◌/◌, ◌%◌, ◌^◌, Some, sym, ap, ◌∙◌, arith}
use Rattle.std.proofs.Math.Nat.{div-le_self}
use Rattle.std.specs.Int.Count.{count_trailing_zeros}
use Rattle.enumset_repr.specs.BitSet.{BitSet, below, difference}
use Rattle.enumset_repr.specs.Ends.{least}
use Rattle.enumset_repr.specs.Laws.Ends.{least_below}
use Rattle.enumset_repr.specs.Laws.Members.{difference_is_subset}
use Rattle.enumset_repr.specs.Words.{word}
use Rattle.enumset_repr.proofs.EndWords.{least_at, least_past}
use Rattle.enumset_repr.proofs.ends.least_bit_from.Goals as goal

found : (s : BitSet) (from w : ℕ) → w ≡ word s (from / 64) → w < 2 ^ 64 → w / 2 ^ (from % 64) ≢ 0 → Some (from + count_trailing_zeros 64 (w / 2 ^ (from % 64))) ≡ least (difference s (below from))
found s from w is fits some =
    least_at s from from (from / 64) (from % 64) _ (omega arith) (omega arith) (λ q start end. absurd (omega (arith, start, end))) (ap (λ n. n / 2 ^ (from % 64)) is) some (omega (arith, fits, div-le_self w (2 ^ (from % 64))))

past_word : (s : BitSet) (from w : ℕ) → w ≡ word s (from / 64) → w / 2 ^ (from % 64) ≡ 0 → least (difference s (below (64 * (from / 64 + 1)))) ≡ least (difference s (below from))
past_word s from w is none =
    let place : 64 * (from / 64) + from % 64 ≡ from = omega arith in
    ap least (least_past s (from / 64) (from % 64) _ (omega arith) (ap (λ n. n / 2 ^ (from % 64)) is) none ∙ ap (λ n. difference s (below n)) place)

pub overflow_add-result : goal.overflow_add-result
overflow_add-result g c =
    let low = least_below _ g.R.EnumSetTypeRepr.WIDTH _ (difference_is_subset _ _ (below c.args.from) c.learn_members.ensures.within) (sym (found _ _ _ c.word_or_zero.ensures c.word_or_zero.type_inv c.if-word-ne0.true)) in
    omega (arith, low, c.learn_members.ensures.width)

pub returns-then-word-ne0 : goal.returns-then-word-ne0
returns-then-word-ne0 g c = found _ _ _ c.word_or_zero.ensures c.word_or_zero.type_inv c.if-word-ne0.true

pub returns : goal.returns
returns g c = c.least_bit_from_word.ensures ∙ past_word _ _ _ c.word_or_zero.ensures c.if-word-ne0.false
