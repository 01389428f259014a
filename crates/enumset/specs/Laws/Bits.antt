-- Laws of numbers and of listed bits.
--     bits_tell      two numbers with the same bits are equal
--     bits_in_order      the set of the list 0, 1, 2 and so on is the set of the numbers below n
-- `number_max` and `number_min`, the number of the greater set and of the lesser, come from `enumset_repr`. There are
-- two rulesets, for `#[tactic(auto, using(enumset::specs::Laws::Bits::numbers))]`: `numbers` has a set and its number,
-- in both directions, and `listed` has the set of a number, of words or of a list, by a list of its bits.
use Rattle.std.proofs.Common.{◌≡◌, ℕ, suc, zero, ◌+◌, ◌&&◌, ◌||◌, sym, ap, ◌∙◌, arith, ◌==◌, nat_le, nat_lt}
use Rattle.std.proofs.lemmas.Bool.Decides.{nat_tests}
use Rattle.std.specs.List.{range_with_len}
use Rattle.enumset_repr.specs.BitSet.{is_in, from_list, below}
use Rattle.enumset_repr.specs.Laws.BitLists.{bits_listed, words_listed}
use Rattle.enumset_repr.specs.Laws.Members.{same_set, contains_below, contains_from_list, contains_ascending}
use Rattle.enumset_repr.specs.Laws.Numbers.{bits_number, number_bits, bits_within, number_within}
pub use Rattle.enumset_repr.specs.Laws.Order.{number_max, number_min}
use Rattle.enumset_repr.specs.Number.{bits, number}

pub bits_tell : (m n : ℕ) → bits m ≡ bits n → m ≡ n
bits_tell m n same = sym (number_bits m) ∙ ap number same ∙ number_bits n

in_range : (q a n : ℕ) → is_in q (range_with_len a n) ≡ (nat_le a q && nat_lt q (a + n))
in_range q a zero = grind (arith, nat_tests)
in_range q a (suc n) = ap (λ t. (q == a) || t) (in_range q (a + 1) n) ∙ grind (arith, nat_tests)

pub bits_in_order : (n : ℕ) → from_list (range_with_len 0 n) ≡ below n
bits_in_order n = same_set _ _ (λ q. contains_from_list (range_with_len 0 n) q ∙ in_range q 0 n ∙ grind (arith, nat_tests) ∙ sym (contains_below n q))

-- what it proves: that a set and its number determine each other
pub ruleset numbers = (bits_number, number_bits, bits_within, number_within, bits_tell)

-- what it proves: which set a number, words or a list is, by a list of its bits
pub ruleset listed = (bits_listed, words_listed, contains_from_list, contains_ascending)
