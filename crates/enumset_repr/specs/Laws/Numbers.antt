-- The set of a number, and what the operations on numbers do to it. Each law holds for every width or place.
--     contains_bits, bits_.., len_bits      the set of a number, and of the result of an operator
--     bits_number, number_bits      from a set to its number and back;  from a number to its set and back
--     bits_integer      from a set to the integer that represents it and back
--     same_number      numbers with the same bits are equal
--     least_bits, greatest_bits      `trailing_zeros` and `leading_zeros`
--     bits_full      a number of n ones
--     on_numbers      the laws that name no width, for a tactic's `using`
use Rattle.std.proofs.Common.{◌≡◌, ◌<◌, ◌≤◌, ℕ, suc, zero, ◌+◌, ◌-◌, ◌*◌, ◌/◌, ◌%◌, ◌^◌, true, false, not, List, [], ◌∷◌, refl, sym, ap, ◌∙◌, length, arith, inl, inr, pow-suc, pow-add, one-mul, zero-mul, subst, ◌==◌, sum_by, bit_and, bit_or, bit_xor, eqb-true, eq-eqb, pow_pos, shr-shr}
use Rattle.std.proofs.Math.Nat.{dvd-add, dvd-mul_left, div-mul_cancel, dvd_trans, dvd-zero}
use Rattle.std.proofs.lemmas.Bool.{cases_lt}
use Rattle.std.proofs.lemmas.Bool.Decides.{nat_tests, same_from_decides}
use Rattle.std.proofs.lemmas.List.Sums.{sum_by-cons}
use Rattle.std.proofs.lemmas.Nat.{le-div, div_below, pow_below, one_shl, shr_split, mod_below}
use Rattle.std.proofs.lemmas.Nat.Bits.{and_pow, bit_at_and, bit_at_or, bit_at_xor, bit_at-pow_same, bit_at-pow_other, bit_at-zero, bit_at_above, bit_at-lt, bit_at_cat_low, bit_at_cat_high, bit_at-suc, bit_at_lowest, bit_at_ones, bit_at_ones_above, same_from_bits}
use Rattle.std.specs.Int.{bit_at, ◌∣◌}
use Rattle.std.specs.Int.Count.{count_trailing_zeros, count_leading_zeros, under, leading_top, ones_cat}
use Rattle.std.specs.Int.RustNames.{count_ones}
use Rattle.enumset_repr.specs.BitSet.{is_in, BitSet, contains, ascending, len, is_empty, empty, insert, only, remove, union, intersection, difference, symmetric_difference, is_subset, below, low}
use Rattle.enumset_repr.specs.Number.{number, bits, integer_of}
use Rattle.enumset_repr.specs.Laws.Members.{same_set, contains_empty, contains_ascending, contains_retain, contains_remove, contains_insert, contains_union, contains_intersection, contains_difference, contains_symmetric_difference, contains_below, contains_low, is_subset_contains, contains_is_subset, union_only, difference_only}
use Rattle.enumset_repr.specs.Laws.Algebra.{intersection_difference}
use Rattle.enumset_repr.specs.Laws.Ascending.{AscendsFrom, ascending_ascends, ascending_empty, is_in_below, len_ascending, is_empty_iff}

-- ---- the members of a number's set

pub lt_pow : (n : ℕ) → n < 2 ^ n
lt_pow zero = omega arith
lt_pow (suc n) = omega (arith, lt_pow n, pow-suc 2 n)

pub contains_bits : (n b : ℕ) → contains (bits n) b ≡ (bit_at n b == 1)
unfolding bits
contains_bits n b = let none = bit_at_above n b b in contains_retain (below n) _ b ∙ grind (arith, nat_tests, contains_below n b, lt_pow b)

-- a set with the bits of a number is the set of that number
bits_is : (n : ℕ) (s : BitSet) → ((q : ℕ) → (bit_at n q == 1) ≡ contains s q) → bits n ≡ s
bits_is n s is = same_set (bits n) s (λ q. contains_bits n q ∙ is q)

-- no member of a number's set is at or past its width
pub bits_within : (n w : ℕ) → n < 2 ^ w → is_subset (bits n) (below w) ≡ true
bits_within n w fits = contains_is_subset (bits n) (below w) (λ q one. let none = bit_at_above n w q fits in grind (arith, nat_tests, contains_bits n q, contains_below w q))

-- ---- the worth of a list: the sum of 2 ^ b over its numbers b

worth : List ℕ → ℕ
worth xs = sum_by (λ b. 2 ^ b) xs

worth-cons : (x : ℕ) (xs : List ℕ) → worth (x ∷ xs) ≡ worth xs + 2 ^ x
unfolding worth
worth-cons x xs = omega (arith, sum_by-cons (λ (b : ℕ). 2 ^ b) x xs)

-- a power of two divides each greater one
pow-divides : (k x : ℕ) → k ≤ x → 2 ^ k ∣ 2 ^ x
pow-divides k x from =
    let e : x - k + k ≡ x = omega (arith, from) in subst (λ n. 2 ^ k ∣ n) (sym (pow-add 2 (x - k) k) ∙ ap (λ j. 2 ^ j) e) (dvd-mul_left (2 ^ k) (2 ^ (x - k)))

ones-pow : (k : ℕ) → count_ones (2 ^ k) ≡ 1
unfolding count_ones
ones-pow k = let e : 2 ^ k ≡ 1 * 2 ^ k + 0 = omega arith in ap count_ones e ∙ ones_cat k 1 0 (pow_pos k)

-- the worth of a list that ascends from k is a multiple of 2 ^ k
worth-multiple : (k : ℕ) (xs : List ℕ) → AscendsFrom k xs → 2 ^ k ∣ worth xs
unfolding worth
worth-multiple k [] ascends = dvd-zero (2 ^ k)
worth-multiple k (x ∷ xs) ascends =
    let later = dvd_trans (2 ^ k) (pow-divides k (suc x) (omega (arith, ascends.0))) (worth-multiple (suc x) xs ascends.1) in
    subst (λ n. 2 ^ k ∣ n) (sym (worth-cons x xs)) (dvd-add (2 ^ k) later (pow-divides k x ascends.0))

-- the worth of an ascending list is 2 ^ x, for its first number x, plus a multiple of 2 ^ (x + 1)
worth-parts : (k x : ℕ) (xs : List ℕ) → AscendsFrom k (x ∷ xs) → (a : ℕ) × (worth xs ≡ a * 2 ^ suc x + 0) × (worth (x ∷ xs) ≡ a * 2 ^ suc x + 2 ^ x)
worth-parts k x xs ascends =
    let whole = sym (div-mul_cancel (2 ^ suc x) (worth-multiple (suc x) xs ascends.1)) in
    (worth xs / 2 ^ suc x, omega (arith, whole), worth-cons x xs ∙ ap (λ n. n + 2 ^ x) whole)

pow_bit : (k q : ℕ) → (bit_at (2 ^ k) q == 1) ≡ (q == k)
pow_bit k q = let same = bit_at-pow_same k in let other = bit_at-pow_other k q in grind (arith, nat_tests)

-- the bits of an ascending list's worth are the numbers of the list
worth-bit : (k : ℕ) (xs : List ℕ) → AscendsFrom k xs → (q : ℕ) → (bit_at (worth xs) q == 1) ≡ is_in q xs
unfolding worth
worth-bit k [] ascends q = ap (λ d. d == 1) (bit_at-zero q)
worth-bit k (x ∷ xs) ascends q =
    let parts = worth-parts k x xs ascends in elim (cases_lt q (suc x)) [
      | inl under ↦
          ap (λ n. bit_at n q == 1) parts.2 ∙ ap (λ d. d == 1) (bit_at_cat_low parts.0 (suc x) (2 ^ x) q under)
          ∙ grind (arith, nat_tests, pow_bit x q, is_in_below (suc x) q xs ascends.1 under)
      | inr over ↦
          ap (λ n. bit_at n q == 1) parts.2
          ∙ ap (λ d. d == 1) (bit_at_cat_high parts.0 (suc x) (2 ^ x) q (pow_below x (suc x) (omega arith)) over ∙ sym (bit_at_cat_high parts.0 (suc x) 0 q (pow_pos (suc x)) over))
          ∙ ap (λ n. bit_at n q == 1) (sym parts.1) ∙ worth-bit (suc x) xs ascends.1 q ∙ grind (arith, nat_tests, over)
    ]

-- the worth of an ascending list has as many ones as the list has numbers
worth-ones : (k : ℕ) (xs : List ℕ) → AscendsFrom k xs → count_ones (worth xs) ≡ length xs
unfolding worth count_ones
worth-ones k [] ascends = refl
worth-ones k (x ∷ xs) ascends =
    let parts = worth-parts k x xs ascends in
    let all = ap count_ones parts.2 ∙ ones_cat (suc x) parts.0 (2 ^ x) (pow_below x (suc x) (omega arith)) in
    let rest = sym (ap count_ones parts.1 ∙ ones_cat (suc x) parts.0 0 (pow_pos (suc x))) ∙ worth-ones (suc x) xs ascends.1 in
    omega (arith, all, rest, ones-pow x)

-- ---- the operations

pub bits_zero : bits 0 ≡ empty
bits_zero = bits_is 0 empty (λ q. ap (λ d. d == 1) (bit_at-zero q) ∙ sym (contains_empty q))

pub bits_and : (a b : ℕ) → bits (bit_and a b) ≡ intersection (bits a) (bits b)
bits_and a b = bits_is _ _ (λ q. grind (arith, nat_tests, bit_at_and a b q, bit_at-lt a q, bit_at-lt b q, contains_bits a q, contains_bits b q, contains_intersection (bits a) (bits b) q))

pub bits_or : (a b : ℕ) → bits (bit_or a b) ≡ union (bits a) (bits b)
bits_or a b = bits_is _ _ (λ q. grind (arith, nat_tests, bit_at_or a b q, bit_at-lt a q, bit_at-lt b q, contains_bits a q, contains_bits b q, contains_union (bits a) (bits b) q))

pub bits_xor : (a b : ℕ) → bits (bit_xor a b) ≡ symmetric_difference (bits a) (bits b)
bits_xor a b = bits_is _ _ (λ q. grind (arith, nat_tests, bit_at_xor a b q, bit_at-lt a q, bit_at-lt b q, contains_bits a q, contains_bits b q, contains_symmetric_difference (bits a) (bits b) q))

-- `!n` at a width
abbrev complement : ℕ → ℕ → ℕ
complement w n = 2 ^ w - 1 - n

bit_at_complement : (w n q : ℕ) → n < 2 ^ w → q < w → bit_at (complement w n) q ≡ 1 - bit_at n q
bit_at_complement zero n q fits within = absurd (omega arith)
bit_at_complement (suc w) n zero fits within = omega (arith, bit_at_lowest (complement (suc w) n), bit_at_lowest n, pow-suc 2 w)
bit_at_complement (suc w) n (suc q) fits within =
    let half : complement (suc w) n / 2 ≡ complement w (n / 2) = omega (arith, pow-suc 2 w) in
    omega (arith, bit_at-suc (complement (suc w) n) q ∙ ap (λ m. bit_at m q) half, bit_at_complement w (n / 2) q (omega (arith, pow-suc 2 w)) (omega arith), bit_at-suc n q)

pub bits_not : (w n : ℕ) → n < 2 ^ w → bits (complement w n) ≡ difference (below w) (bits n)
bits_not w n fits = bits_is _ _ (λ q.
    let under = bit_at_complement w n q fits in
    let none = bit_at_above (complement w n) w q (omega (arith, pow_pos w)) in
    grind (arith, nat_tests, bit_at-lt n q, contains_bits n q, contains_below w q, contains_difference (below w) (bits n) q))

-- ---- a set and its number

pub bits_number : (s : BitSet) → bits (number s) ≡ s
unfolding number worth
bits_number s = bits_is (number s) s (λ q. worth-bit 0 (ascending s) (ascending_ascends s) q ∙ sym (contains_ascending s q))

pub bits_integer : (s : BitSet) → bits (integer_of s) ≡ s
unfolding integer_of
bits_integer s = bits_number s

pub number_bits : (n : ℕ) → number (bits n) ≡ n
number_bits n = same_from_bits (number (bits n)) n (λ q.
    let same = ap (λ s. contains s q) (bits_number (bits n)) in grind (arith, nat_tests, bit_at-lt (number (bits n)) q, bit_at-lt n q, contains_bits (number (bits n)) q, contains_bits n q))

-- numbers with the same bits are equal
pub same_number : (n k : ℕ) → ((q : ℕ) → contains (bits n) q ≡ contains (bits k) q) → n ≡ k
same_number n k same = sym (number_bits n) ∙ ap number (same_set _ _ same) ∙ number_bits k

number-empty : number empty ≡ 0
unfolding number
number-empty = ap (sum_by (λ b. 2 ^ b)) ascending_empty

pub bits_empty : (n : ℕ) → bits n ≡ empty → n ≡ 0
bits_empty n none = sym (number_bits n) ∙ ap number none ∙ number-empty

-- `n == 0` says that the set is empty
pub bits_is_empty : (n : ℕ) → (n == 0) ≡ is_empty (bits n)
bits_is_empty n = same_from_decides _ _ (λ zero. ap bits (eqb-true n 0 zero) ∙ bits_zero, λ none. eq-eqb n 0 (bits_empty n none)) (is_empty_iff (bits n))

-- `n.count_ones()` is the number of members
pub len_bits : (n : ℕ) → len (bits n) ≡ count_ones n
unfolding number worth
len_bits n = len_ascending (bits n) ∙ sym (worth-ones 0 (ascending (bits n)) (ascending_ascends (bits n))) ∙ ap count_ones (number_bits n)

-- ---- `a & !b`, and one bit

pub bits_and_not : (w a b : ℕ) → a < 2 ^ w → b < 2 ^ w → bits (bit_and a (complement w b)) ≡ difference (bits a) (bits b)
bits_and_not w a b fits_a fits_b = bits_and a _ ∙ ap (intersection (bits a)) (bits_not w b fits_b) ∙ intersection_difference _ _ _ (bits_within a w fits_a)

pub bits_pow : (k : ℕ) → bits (2 ^ k) ≡ only k
bits_pow k = bits_is _ _ (λ q. pow_bit k q ∙ grind (arith, nat_tests, contains_insert empty k q, contains_empty q))

-- `1 << k` represents the set of k alone
pub bits_one_shifted : (w k : ℕ) → k < w → bits (1 * 2 ^ k % 2 ^ w) ≡ only k
bits_one_shifted w k within = ap bits (one_shl k w within) ∙ bits_pow k

pub bits_set : (w n k : ℕ) → k < w → bits (bit_or n (1 * 2 ^ k % 2 ^ w)) ≡ insert (bits n) k
bits_set w n k within = bits_or n _ ∙ ap (union (bits n)) (bits_one_shifted w k within) ∙ union_only _ k

pub bits_clear : (w n k : ℕ) → n < 2 ^ w → k < w → bits (bit_and n (complement w (1 * 2 ^ k % 2 ^ w))) ≡ remove (bits n) k
bits_clear w n k fits within = bits_and_not w n _ fits (mod_below _ (2 ^ w) (pow_pos w)) ∙ ap (difference (bits n)) (bits_one_shifted w k within) ∙ difference_only _ k

-- `n.trailing_zeros()` is the place of the lowest 1; n - 1 lacks that bit and has the same bits above it
IsLowest : ℕ → ℕ → ℕ → Type 0
IsLowest w n t = (t < w) × (bit_at n t ≡ 1) × ((i : ℕ) → i < t → bit_at n i ≡ 0) × (bit_at (n - 1) t ≡ 0) × ((i : ℕ) → t < i → bit_at (n - 1) i ≡ bit_at n i)

lowest_by : (w n t d : ℕ) → n % 2 ≡ d → 0 < n → (0 < n / 2 → IsLowest w (n / 2) t) → IsLowest (suc w) n (under d t)
unfolding IsLowest
lowest_by w n t (suc d) odd some half = (omega arith, omega (arith, bit_at_lowest n), λ i under. absurd (omega arith), omega (arith, bit_at_lowest (n - 1)), above)
  where
    above : (i : ℕ) → 0 < i → bit_at (n - 1) i ≡ bit_at n i
    above zero past = absurd (omega arith)
    above (suc i) past = let same : (n - 1) / 2 ≡ n / 2 = omega (arith, odd) in bit_at-suc (n - 1) i ∙ ap (λ m. bit_at m i) same ∙ sym (bit_at-suc n i)
lowest_by w n t zero even some half =
    let rest = half (omega arith) in (omega (arith, rest.0), bit_at-suc n t ∙ rest.1, before rest.2, lower t ∙ rest.3, above rest.4)
  where
    lower : (i : ℕ) → bit_at (n - 1) (suc i) ≡ bit_at (n / 2 - 1) i
    lower i = let less : (n - 1) / 2 ≡ n / 2 - 1 = omega (arith, even) in bit_at-suc (n - 1) i ∙ ap (λ m. bit_at m i) less

    before : ((i : ℕ) → i < t → bit_at (n / 2) i ≡ 0) → (i : ℕ) → i < suc t → bit_at n i ≡ 0
    before none zero under = bit_at_lowest n ∙ even
    before none (suc i) under = bit_at-suc n i ∙ none i (omega arith)

    above : ((i : ℕ) → t < i → bit_at (n / 2 - 1) i ≡ bit_at (n / 2) i) → (i : ℕ) → suc t < i → bit_at (n - 1) i ≡ bit_at n i
    above same zero past = absurd (omega arith)
    above same (suc i) past = lower i ∙ same i (omega arith) ∙ sym (bit_at-suc n i)

lowest_set : (w n : ℕ) → 0 < n → n < 2 ^ w → IsLowest w n (count_trailing_zeros w n)
unfolding count_trailing_zeros
lowest_set zero n some fits = absurd (omega arith)
lowest_set (suc w) n some fits = lowest_by w n (count_trailing_zeros w (n / 2)) (n % 2) refl some (λ rest. lowest_set w (n / 2) rest (omega (arith, pow-suc 2 w)))

-- `n & (n - 1)` removes the least member
pub bits_clear_least : (w n : ℕ) → 0 < n → n < 2 ^ w → bits (bit_and n (n - 1)) ≡ remove (bits n) (count_trailing_zeros w n)
unfolding IsLowest
bits_clear_least w n some fits =
    let lowest = lowest_set w n some fits in
    bits_is _ _ (λ q.
    let before = lowest.2 q in
    let above = lowest.4 q in
    grind (arith, nat_tests, lowest.1, lowest.3, bit_at_and n (n - 1) q, bit_at-lt n q, contains_bits n q, contains_remove (bits n) (count_trailing_zeros w n) q))

pub bits_test : (w n k : ℕ) → k < w → contains (bits n) k ≡ not (bit_and n (1 * 2 ^ k % 2 ^ w) == 0)
bits_test w n k within =
    let p = pow_pos k in
    let clear : bit_at n k ≡ 0 → bit_at n k * 2 ^ k ≡ 0 = λ e. ap (λ d. d * 2 ^ k) e ∙ zero-mul (2 ^ k) in
    let one : bit_at n k ≡ 1 → bit_at n k * 2 ^ k ≡ 2 ^ k = λ e. ap (λ d. d * 2 ^ k) e ∙ one-mul (2 ^ k) in
    contains_bits n k ∙ grind (arith, nat_tests, bit_at-lt n k, and_pow n k, ap (bit_and n) (one_shl k w within))

-- ---- the least and the greatest

-- `n.trailing_zeros()` is the least member, `WIDTH - 1 - n.leading_zeros()` the greatest
pub least_bits : (w n : ℕ) → 0 < n → n < 2 ^ w → (contains (bits n) (count_trailing_zeros w n) ≡ true) × ((q : ℕ) → q < count_trailing_zeros w n → contains (bits n) q ≡ false)
unfolding IsLowest
least_bits w n some fits =
    let lowest = lowest_set w n some fits in
    (contains_bits n _ ∙ ap (λ d. d == 1) lowest.1, λ q under. contains_bits n q ∙ ap (λ d. d == 1) (lowest.2 q under))

top_bit : (n j : ℕ) → 2 ^ j ≤ n → n < 2 ^ suc j → bit_at n j ≡ 1
top_bit n j from fits = omega (arith, le-div 1 n (2 ^ j) (pow_pos j) (omega (arith, from)), div_below n (2 ^ j) 2 (pow_pos j) (omega (arith, fits, pow-suc 2 j)))

pub greatest_bits : (w n : ℕ) → 0 < n → n < 2 ^ w → (count_leading_zeros w n < w) × (contains (bits n) (w - 1 - count_leading_zeros w n) ≡ true) × ((q : ℕ) → w - 1 - count_leading_zeros w n < q → contains (bits n) q ≡ false)
greatest_bits w n some fits =
    let top = leading_top w n some fits in
    let place : w - 1 - count_leading_zeros w n ≡ top.0 = omega (arith, top.1) in (
      omega (arith, top.1),
      ap (contains (bits n)) place ∙ contains_bits n top.0 ∙ ap (λ d. d == 1) (top_bit n top.0 top.2 top.3),
      λ q over. contains_bits n q ∙ ap (λ d. d == 1) (bit_at_above n (suc top.0) q top.3 (omega (arith, place, over))),
    )

-- ---- the low bits, and those from a place on

-- `n % 2 ^ k` has the members below k
pub bits_low : (n k : ℕ) → bits (n % 2 ^ k) ≡ low (bits n) k
bits_low n k = bits_is _ _ (λ q.
    let under = bit_at_cat_low (n / 2 ^ k) k (n % 2 ^ k) q in
    let over = bit_at_above (n % 2 ^ k) k q (mod_below n (2 ^ k) (pow_pos k)) in
    let whole = ap (λ m. bit_at m q) (shr_split n k) in
    grind (arith, nat_tests, contains_bits n q, contains_low (bits n) k q))

pub number_within : (s : BitSet) (w : ℕ) → is_subset s (below w) ≡ true → number s < 2 ^ w
number_within s w sub =
    let cut : number s % 2 ^ w ≡ number s = sym (number_bits _) ∙ ap number (bits_low (number s) w ∙ ap (λ t. low t w) (bits_number s)
    ∙ same_set _ _ (λ q. let each = is_subset_contains s (below w) sub q in grind (arith, contains_low s w q, contains_below w q))) in
    omega (arith, cut, mod_below (number s) (2 ^ w) (pow_pos w))

-- n / 2 ^ k has the bits of n from k on, each reduced by k
pub contains_bits_shifted : (n k b : ℕ) → contains (bits (n / 2 ^ k)) b ≡ contains (bits n) (k + b)
contains_bits_shifted n k b = contains_bits (n / 2 ^ k) b ∙ ap (λ m. m % 2 == 1) (shr-shr n k b) ∙ sym (contains_bits n (k + b))

-- ---- a number of n ones

pub bits_full : (n : ℕ) → bits (2 ^ n - 1) ≡ below n
bits_full n = same_set _ _ (λ q.
    let under = bit_at_ones n q in
    let past = bit_at_ones_above n q in
    grind (arith, nat_tests, contains_bits (2 ^ n - 1) q, contains_below n q))

-- What a proof about the set of a number needs, at any width.
pub ruleset on_numbers = (bits_and, bits_or, bits_xor, len_bits, bits_low, contains_bits_shifted, bits_zero, bits_empty, bits_is_empty)
