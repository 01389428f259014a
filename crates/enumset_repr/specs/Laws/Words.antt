-- Words of 64 bits: laws of `word`, `upward_shift` and `with_word`, at every width and place.
--     contains_upward_shift, contains_with_word      the members of `upward_shift` and of `with_word`
--     contains_bits_word      the bits of a word of a set
--     word_bits      word w of a number's set is the number, shifted down by 64 w, without the bits from 64 on
--     bits_shifted_up      the set of `n << k`
--     bits_put_low, bits_put_word      the set of a number after one of its words was replaced
use Rattle.std.proofs.Common.{◌≡◌, ◌<◌, ◌≤◌, ℕ, suc, ◌+◌, ◌-◌, ◌*◌, ◌/◌, ◌%◌, ◌^◌, Bool, true, false, not, ◌&&◌, ◌||◌, List, [], ◌∷◌, refl, sym, ap, ◌∙◌, arith, map, cond, nat_lt, nat_le, sum_by, filter, bit_and, bit_or, pow_pos}
use Rattle.std.proofs.lemmas.Bool.Decides.{nat_tests}
use Rattle.std.proofs.lemmas.List.Sums.{sum_by-cons}
use Rattle.std.proofs.lemmas.Nat.{mod_below}
use Rattle.std.proofs.lemmas.Nat.Bits.{bit_at_cat_low, bit_at_cat_high, bit_at-zero}
use Rattle.std.specs.Int.{bit_at}
use Rattle.enumset_repr.specs.BitSet.{is_in, BitSet, contains, ascending, from_list, union, is_subset, below, low}
use Rattle.enumset_repr.specs.Number.{number, bits}
use Rattle.enumset_repr.specs.Words.{is_in_word, word, upward_shift, with_word}
use Rattle.enumset_repr.specs.Laws.Members.{same_set, contains_ascending, contains_retain, contains_from_list, contains_union, contains_difference, contains_low, contains_below, member_below}
use Rattle.enumset_repr.specs.Laws.Ascending.{AscendsFrom, ascends_lower, ascending_ascends, ascending_is}
use Rattle.enumset_repr.specs.Laws.Numbers.{contains_bits, bits_number, same_number, bits_full, bits_within, bits_low, bits_or, bits_and_not, contains_bits_shifted}

-- ---- a set shifted upward

is_in-upward_shift : (k q : ℕ) (bs : List ℕ) → is_in q (map (λ b. k + b) bs) ≡ (nat_le k q && is_in (q - k) bs)
is_in-upward_shift k q [] = grind (arith, nat_tests)
is_in-upward_shift k q (b ∷ bs) = grind (arith, nat_tests, is_in-upward_shift k q bs)

pub contains_upward_shift : (s : BitSet) (k q : ℕ) → contains (upward_shift s k) q ≡ (nat_le k q && contains s (q - k))
unfolding upward_shift
contains_upward_shift s k q = contains_from_list _ q ∙ is_in-upward_shift k q (ascending s) ∙ ap (λ t. nat_le k q && t) (sym (contains_ascending s (q - k)))

pub contains_with_word : (s : BitSet) (width w n q : ℕ) → contains (with_word s width w n) q ≡ ((contains s q && not (is_in_word w q)) || ((nat_le (64 * w) q && contains (bits n) (q - 64 * w)) && nat_lt q width))
unfolding with_word
contains_with_word s width w n q =
    contains_union _ _ q
    ∙ (λ i. contains_retain s (λ b. not (is_in_word w b)) q i || (contains_low (upward_shift (bits n) (64 * w)) width q ∙ ap (λ t. t && nat_lt q width) (contains_upward_shift (bits n) (64 * w) q)) i)

-- ---- the members in a word

-- the members in word w, counted from its lowest bit
cut : ℕ → List ℕ → List ℕ
cut w xs = map (λ b. b - 64 * w) (filter (is_in_word w) xs)

cut-ascends : (w k : ℕ) (xs : List ℕ) → AscendsFrom k xs → AscendsFrom (k - 64 * w) (cut w xs)
unfolding cut
cut-ascends w k [] ascends = tt
cut-ascends w k (x ∷ xs) ascends = at (is_in_word w x) refl (cut-ascends w (suc x) xs ascends.1) where
  at : (one : Bool) → is_in_word w x ≡ one → AscendsFrom (suc x - 64 * w) (cut w xs) → AscendsFrom (k - 64 * w) (map (λ b. b - 64 * w) (cond one (x ∷ filter (is_in_word w) xs) (filter (is_in_word w) xs)))
  at true here rest = let from : 64 * w ≤ x = grind (arith, nat_tests) in (omega (arith, ascends.0), ascends_lower _ _ _ (omega (arith, from)) rest)
  at false out rest = ascends_lower _ _ _ (omega (arith, ascends.0)) rest

is_in-cut : (w q : ℕ) (xs : List ℕ) → is_in q (cut w xs) ≡ (is_in (64 * w + q) xs && nat_lt q 64)
unfolding cut
is_in-cut w q [] = refl
is_in-cut w q (x ∷ xs) = grind (arith, nat_tests, is_in-cut w q xs)

sum_by-map : (f g : ℕ → ℕ) (xs : List ℕ) → sum_by f (map g xs) ≡ sum_by (λ x. f (g x)) xs
sum_by-map f g [] = refl
sum_by-map f g (x ∷ xs) = sum_by-cons f (g x) (map g xs) ∙ ap (λ n. f (g x) + n) (sum_by-map f g xs) ∙ sym (sum_by-cons (λ y. f (g y)) x xs)

-- a word is the number of its members, counted from its lowest bit
word-number : (s : BitSet) (w : ℕ) → word s w ≡ number (from_list (cut w (ascending s)))
unfolding word number cut
word-number s w =
    let list : ascending (from_list (cut w (ascending s))) ≡ cut w (ascending s) = ascending_is _ _ (ascends_lower 0 (0 - 64 * w) _ (omega arith) (cut-ascends w 0 (ascending s) (ascending_ascends s))) (λ q. contains_from_list _ q) in
    sym (sum_by-map (λ b. 2 ^ b) (λ b. b - 64 * w) (filter (is_in_word w) (ascending s))) ∙ ap (sum_by (λ b. 2 ^ b)) (sym list)

pub contains_bits_word : (s : BitSet) (w q : ℕ) → contains (bits (word s w)) q ≡ (contains s (64 * w + q) && nat_lt q 64)
contains_bits_word s w q =
    ap (λ n. contains (bits n) q) (word-number s w) ∙ ap (λ t. contains t q) (bits_number _) ∙ contains_from_list _ q
    ∙ is_in-cut w q (ascending s) ∙ ap (λ t. t && nat_lt q 64) (sym (contains_ascending s (64 * w + q)))

pub word_bits : (n w : ℕ) → word (bits n) w ≡ n / 2 ^ (64 * w) % 2 ^ 64
word_bits n w = same_number _ _ (λ q.
    contains_bits_word (bits n) w q ∙ ap (λ t. t && nat_lt q 64) (sym (contains_bits_shifted n (64 * w) q))
    ∙ sym (contains_low (bits (n / 2 ^ (64 * w))) 64 q) ∙ ap (λ t. contains t q) (sym (bits_low (n / 2 ^ (64 * w)) 64)))

-- ---- one word replaced

-- `n << k` at a width: the bits of n shifted upward, without those past the width
pub bits_shifted_up : (width n k : ℕ) → bits (n * 2 ^ k % 2 ^ width) ≡ low (upward_shift (bits n) k) width
bits_shifted_up width n k = bits_low (n * 2 ^ k) width ∙ ap (λ s. low s width) (same_set _ _ (λ q.
    let under = bit_at_cat_low n k 0 q in
    let over = bit_at_cat_high n k 0 q (pow_pos k) in
    let whole : bit_at (n * 2 ^ k) q ≡ bit_at (n * 2 ^ k + 0) q = ap (λ m. bit_at m q) (omega arith) in
    grind (arith, nat_tests, bit_at-zero q, contains_bits (n * 2 ^ k) q, contains_bits n (q - k), contains_upward_shift (bits n) k q)))

contains-ones : (q : ℕ) → contains (bits 18446744073709551615) q ≡ nat_lt q 64
contains-ones q = ap (λ s. contains s q) (bits_full 64) ∙ contains_below 64 q

contains-mask : (width i q : ℕ) → contains (bits (18446744073709551615 * 2 ^ (64 * i) % 2 ^ width)) q ≡ ((nat_le (64 * i) q && nat_lt (q - 64 * i) 64) && nat_lt q width)
contains-mask width i q =
    ap (λ s. contains s q) (bits_shifted_up width 18446744073709551615 (64 * i)) ∙ contains_low _ width q
    ∙ ap (λ t. t && nat_lt q width) (contains_upward_shift _ (64 * i) q ∙ ap (λ t. nat_le (64 * i) q && t) (contains-ones (q - 64 * i)))

-- any word, at any width: `n & !(u64::MAX << k) | x << k`, where k is 64 times the place
pub bits_put_word : (w n x i : ℕ) → n < 2 ^ w → bits (bit_or (bit_and n (2 ^ w - 1 - (18446744073709551615 * 2 ^ (64 * i) % 2 ^ w))) (x * 2 ^ (64 * i) % 2 ^ w)) ≡ with_word (bits n) w i x
bits_put_word w n x i fits =
    bits_or _ _
    ∙ (λ j. union (bits_and_not w n (18446744073709551615 * 2 ^ (64 * i) % 2 ^ w) fits (mod_below _ (2 ^ w) (pow_pos w)) j) (bits_shifted_up w x (64 * i) j))
    ∙ same_set _ _ (λ q.
    let within = member_below (bits n) w q (bits_within n w fits) in
    contains_union _ _ q ∙ grind (arith, nat_tests, contains_difference (bits n) (bits (18446744073709551615 * 2 ^ (64 * i) % 2 ^ w)) q, contains-mask w i q, contains_low (upward_shift (bits x) (64 * i)) w q, contains_upward_shift (bits x) (64 * i) q, contains_with_word (bits n) w i x q))

-- the lowest word, at a width of at most 64 bits
pub bits_put_low : (width n x : ℕ) → width ≤ 64 → is_subset (bits n) (below width) ≡ true → bits (x % 2 ^ width) ≡ with_word (bits n) width 0 x
bits_put_low width n x narrow within = bits_low x width ∙ same_set _ _ (λ q.
    let under = member_below (bits n) width q within in
    contains_low (bits x) width q ∙ grind (arith, nat_tests) ∙ sym (contains_with_word (bits n) width 0 x q))
