use Rattle.std.proofs.Common.{◌≡◌, ◌<◌, ◌≤◌, ℕ, ◌-◌, ◌*◌, ◌%◌, ◌^◌, ap, ◌∙◌, arith}
use Rattle.std.proofs.lemmas.Bool.Decides.{nat_tests}
use Rattle.enumset_repr.specs.BitSet.{contains, below, difference}
use Rattle.enumset_repr.specs.Laws.Members.{members, same_set, contains_low, contains_below}
use Rattle.enumset_repr.specs.Laws.Numbers.{bits_zero, bits_full}
use Rattle.enumset_repr.specs.Laws.Words.{bits_shifted_up, contains_upward_shift}
use Rattle.enumset_repr.specs.Number.{bits}
use Rattle.enumset_sets.proofs.enum_set.ones_from.Goals as goal

shifted : (k : ℕ) → k < 64 → bits (18446744073709551615 * 2 ^ k % 2 ^ 64) ≡ difference (below 64) (below k)
shifted k small = bits_shifted_up 64 18446744073709551615 k ∙ same_set _ _ (λ q.
    let full = ap (λ s. contains s (q - k)) (bits_full 64) ∙ contains_below 64 (q - k) in
    contains_low _ 64 q ∙ grind (arith, nat_tests, members, contains_upward_shift (bits 18446744073709551615) k q))

none : (k : ℕ) → 64 ≤ k → bits 0 ≡ difference (below 64) (below k)
none k past = bits_zero ∙ same_set _ _ (λ q. grind (arith, nat_tests, members))

pub returns-then-k-lt64 : goal.returns-then-k-lt64
returns-then-k-lt64 c = shifted _ c.if-k-lt64.true

pub returns-else-k-lt64 : goal.returns-else-k-lt64
returns-else-k-lt64 c = none _ c.if-k-lt64.false
