-- An integer as a representation, at every number of bits, and numbers with bits masked out.
--     by_number, by_integer      a number represents the set of its bits, if these are below a width
--     below_power      a number whose bits are below the width w is less than 2 ^ w
--     integer_operators      `&`, `|`, `^` and `!` of an integer type
--     word_.., with_word_..      a word, and a number with a word replaced, at a width of up to 64 bits and at 128
--     masked_tells      `a & !b == 0` as a test of a subset
--     or_and_not      bits set and cleared at once
-- In premises, `m ≡ 2 ^ low_zeros 128 m` says that m is a power of two. The checker computes it for a literal number.
-- The ruleset `on_integers` has what the calls of an integer need, and those of a representation in the low bits of an
-- integer.
use Rattle.std.proofs.Common.{◌≡◌, ◌<◌, ◌≤◌, ℕ, suc, ◌+◌, ◌*◌, ◌/◌, ◌%◌, ◌^◌, ◌-◌, sym, ap, ◌∙◌, arith, true, not, refl, ◌==◌, IsTrue, nat_cmp, bit_and, bit_or, bit_xor, eqb-true, eq-eqb, subst, ◌↔◌}
use Rattle.std.proofs.lemmas.Bool.Decides.{nat_tests}
use Rattle.std.proofs.lemmas.Grind.{low_zeros}
use Rattle.std.proofs.lemmas.Nat.{and_mask, and_le_l}
use Rattle.std.specs.Int.{bit_not, Width, w128}
use Rattle.enumset_repr.specs.BitSet.{contains, only, difference, is_subset, below, union, is_empty}
use Rattle.enumset_repr.specs.Laws.Algebra.{intersection_right, symmetric_difference_within, intersection_within}
use Rattle.enumset_repr.specs.Laws.Ends.{trailing_least, least_fits, leading_greatest, clear_least, least_positive}
use Rattle.enumset_repr.specs.Laws.Members.{union_only, difference_only, subsets, contains_below, union_is_subset, is_disjoint_iff}
use Rattle.enumset_repr.specs.Laws.Numbers.{number_bits, number_within, bits_full, bits_within, bits_and, bits_or, bits_xor, bits_not, bits_and_not, bits_one_shifted, bits_test, bits_zero, on_numbers, bits_number, bits_is_empty}
use Rattle.enumset_repr.specs.Laws.Words.{word_bits, bits_put_low, bits_put_word}
use Rattle.enumset_repr.specs.Number.{number, bits, integer_of, IsInteger}
use Rattle.enumset_repr.specs.Representations.{IsRepresentation, AreSetOperators}
use Rattle.enumset_repr.specs.Words.{word, with_word}
use mir.Val.{bits as width_bits}
use Rattle.enumset_repr.specs.Laws.Order.{compare_bits}
use Rattle.enumset_repr.specs.Laws.Counting.{is_empty_difference}

pub by_number : (width : ℕ) → IsRepresentation bits number (λ n. IsTrue (is_subset (bits n) (below width))) 0 width ((width + 63) / 64) (λ a b. a == b) nat_cmp
by_number width = record {
  no_member = bits_zero;
  within = λ _ is. is;
  inverse = λ a _. number_bits a;
  represented = λ s _. bits_number s;
  is_value = λ s within. subst (λ t. IsTrue (is_subset t (below width))) (sym (bits_number s)) within;
  word_count = refl;
  equal = λ a b _ _. (λ same. ap bits (eqb-true a b same), λ same. eq-eqb a b (sym (number_bits a) ∙ ap number same ∙ number_bits b));
  ordered = λ a b _ _. compare_bits a b;
}

-- the same by the names that a search does not unfold
pub by_integer : (width : ℕ) → IsRepresentation bits integer_of (IsInteger width) 0 width ((width + 63) / 64) (λ a b. a == b) nat_cmp
unfolding integer_of IsInteger
by_integer width = by_number width

-- a number whose bits are below a width is less than that power of two
pub below_power : (width n : ℕ) → IsInteger width n → n < 2 ^ width
unfolding IsInteger
below_power width n within = omega (arith, number_bits n, number_within (bits n) width within)

-- the operators of the integer type of a width
pub integer_operators : (w : Width) → AreSetOperators bits (IsInteger (width_bits w)) (width_bits w)
    (λ _ _. Unit {0}) (λ _ _. Unit {0}) (λ _ _. Unit {0}) (λ _. Unit {0})
    (λ a b r. r ≡ bit_and a b) (λ a b r. r ≡ bit_or a b) (λ a b r. r ≡ bit_xor a b) (λ a r. r ≡ bit_not w a)
unfolding IsInteger
integer_operators w = record {
  can_bitand = λ _ _. tt;
  can_bitor = λ _ _. tt;
  can_bitxor = λ _ _. tt;
  can_turn = λ _. tt;
  bitand = λ a b r e. ap bits e ∙ bits_and a b;
  bitor = λ a b r e. ap bits e ∙ bits_or a b;
  bitxor = λ a b r e. ap bits e ∙ bits_xor a b;
  turned = λ a r within e. ap bits e ∙ bits_not (width_bits w) a (below_power (width_bits w) a within);
}

-- ---- words

-- a number below 2^64 is the only word of its bits
pub word_whole : (n i : ℕ) → n < 2 ^ 64 → i < 1 → word (bits n) i ≡ n
word_whole n i fits first =
    let place : i ≡ 0 = omega (arith, first) in
    let one : n / 1 ≡ n = omega arith in
    let whole : n % 2 ^ 64 ≡ n = omega (arith, fits) in
    ap (word (bits n)) place ∙ word_bits n 0 ∙ ap (λ m. m % 2 ^ 64) one ∙ whole

-- `x & MAX` is what replaces the only word, at a width of at most 64 bits
pub with_word_narrow : (width n i x : ℕ) → width ≤ 64 → is_subset (bits n) (below width) ≡ true → i < 1 → with_word (bits n) width i x ≡ bits (bit_and x (2 ^ width - 1))
with_word_narrow width n i x narrow within first =
    let place : i ≡ 0 = omega (arith, first) in
    ap (λ j. with_word (bits n) width j x) place ∙ sym (bits_put_low width n x narrow within) ∙ ap bits (sym (and_mask x width))

-- `x` is what replaces the only word, at 64 bits
pub with_word_whole : (n i x : ℕ) → n < 2 ^ 64 → i < 1 → x < 2 ^ 64 → with_word (bits n) 64 i x ≡ bits x
with_word_whole n i x fits first small =
    let same : x % 2 ^ 64 ≡ x = omega (arith, small) in
    let place : i ≡ 0 = omega (arith, first) in
    ap (λ j. with_word (bits n) 64 j x) place ∙ sym (bits_put_low 64 n x (omega arith) (bits_within n 64 fits)) ∙ ap bits same

-- `(n >> 64 * i) & u64::MAX` is word i
pub word_shifted : (n i : ℕ) → word (bits n) i ≡ bit_and (n / 2 ^ (64 * i)) 18446744073709551615
word_shifted n i = word_bits n i ∙ sym (and_mask (n / 2 ^ (64 * i)) 64)

-- `n & !(u64::MAX << 64 * i) | x << 64 * i` replaces word i, at 128 bits
pub with_word_wide : (n i x : ℕ) → n < 2 ^ 128 → with_word (bits n) 128 i x ≡ bits (bit_or (bit_and n (bit_not w128 (18446744073709551615 * 2 ^ (64 * i) % 2 ^ 128))) (x * 2 ^ (64 * i) % 2 ^ 128))
with_word_wide n i x fits = sym (bits_put_word 128 n x i fits)

pub ruleset words_narrow = (word_whole, with_word_narrow, with_word_whole)

pub ruleset words_wide = (word_shifted, with_word_wide)

-- ---- what the calls of an integer need. A tactic cannot find the width in a literal 2 ^ w: `low_zeros` computes it.

-- `1 << k` represents the set of k alone
pub bits_one : (k m : ℕ) → m ≡ 2 ^ low_zeros 128 m → k < low_zeros 128 m → bits (1 * 2 ^ k % m) ≡ only k
bits_one k m e within = ap (λ j. bits (1 * 2 ^ k % j)) e ∙ bits_one_shifted (low_zeros 128 m) k within

-- `n & (1 << k) != 0` says that k is a member
pub tests_bit : (n k m : ℕ) → m ≡ 2 ^ low_zeros 128 m → k < low_zeros 128 m → (bit_and n (1 * 2 ^ k % m) == 0) ≡ not (contains (bits n) k)
tests_bit n k m e within = ap (λ j. bit_and n (1 * 2 ^ k % j) == 0) e ∙ grind (arith, nat_tests, bits_test (low_zeros 128 m) n k within)

-- `a & !b` represents the difference
pub and_not : (a b m : ℕ) → suc m ≡ 2 ^ low_zeros 128 (suc m) → a ≤ m → b ≤ m → bits (bit_and a (m - b)) ≡ difference (bits a) (bits b)
and_not a b m e p q =
    let ones : m ≡ 2 ^ low_zeros 128 (suc m) - 1 = omega (arith, e) in
    ap (λ j. bits (bit_and a (j - b))) ones ∙ bits_and_not (low_zeros 128 (suc m)) a b (omega (arith, e, p)) (omega (arith, e, q))

-- a number that is masked, like `n & 0x7f`, stays below each bound of the number
pub and_below : (a b m : ℕ) → a < m → bit_and a b < m
and_below a b m fits = omega (arith, fits, and_le_l a b)

-- a number of ones, like 0x7f
pub bits_ones : (m : ℕ) → suc m ≡ 2 ^ low_zeros 128 (suc m) → bits m ≡ below (low_zeros 128 (suc m))
bits_ones m e = let ones : m ≡ 2 ^ low_zeros 128 (suc m) - 1 = omega (arith, e) in ap bits ones ∙ bits_full (low_zeros 128 (suc m))

pub ruleset on_integers = (on_numbers, subsets, contains_below, nat_tests, union_only, difference_only, intersection_right, symmetric_difference_within, bits_within, bits_one, bits_ones, tests_bit, and_not, and_below, least_positive, clear_least, trailing_least, least_fits, leading_greatest, words_narrow, words_wide)

-- ---- bits masked out

-- `a & !b == 0`. The first part of the law is always true: it shows the search where to use the law
pub masked_tells : (a b m : ℕ) → suc m ≡ 2 ^ low_zeros 128 (suc m) → a ≤ m → b ≤ m → (bit_and a (m - b) ≡ bit_and a (m - b)) × ((bit_and a (m - b) ≡ 0) ↔ (is_subset (bits a) (bits b) ≡ true))
masked_tells a b m e p q =
    let same : (bit_and a (m - b) == 0) ≡ is_subset (bits a) (bits b) = bits_is_empty _ ∙ ap is_empty (and_not a b m e p q) ∙ is_empty_difference (bits a) (bits b) in
    (refl, (λ none. grind (arith, nat_tests), λ within. grind (arith, nat_tests)))

-- `(a | b) & !c` represents the difference of a union and a set
pub or_and_not : (a b c m : ℕ) → suc m ≡ 2 ^ low_zeros 128 (suc m) → a ≤ m → b ≤ m → c ≤ m → bits (bit_and (bit_or a b) (m - c)) ≡ difference (union (bits a) (bits b)) (bits c)
or_and_not a b c m e p q r =
    let w = low_zeros 128 (suc m) in
    let both = union_is_subset _ _ _ (bits_within a w (omega (arith, e, p))) (bits_within b w (omega (arith, e, q))) in
    let fits : bit_or a b < 2 ^ w = subst (λ n. n < 2 ^ w) (ap number (sym (bits_or a b)) ∙ number_bits _) (number_within _ w both) in
    and_not _ c m e (omega (arith, e, fits)) r ∙ ap (λ s. difference s (bits c)) (bits_or a b)
