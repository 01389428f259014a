-- Lists of words of 64 bits: the set of a list, and the words of a set.
--     contains_bits_of      64 w + b is a member exactly if b is a bit of the word at place w
--     by_word      a fact about a number, by its word and its bit in the word
--     contains_zero      the word 0 has no bits
--     word_bits_of, words_bits_of      the words of the set of a list are the words of the list
--     word_empty      each word of the empty set is 0
--     bits_of_zeros      the set of a list of zeros is empty
--     words_none, words_more, length_words, slice_index_words      the list of the words of a set, one word after
--         another
--     bits_of_words      the set of the first words of a set: the members below their end
--     word_past, within_words      a set is below a width exactly if each word past the width is 0
--     put_next      a set cut at a word, with the next word put in
--     bits_of_within      the bits of a list of words are below 64 times its length
--     number_word      the number of the members below 64 is the first word
--     bits_of_halves, number_words      a number of 128 bits, and its two words
--     low_same_words      a set is below a width if a cut at this width leaves each word as it is
-- For a loop that fills a representation with the words of a list, the lowest first:
--     none_put      before the first word the set is empty
--     all_put      after the last word of the list or of the representation, all bits below the width are in
--     word_past_repr      each word past the last word of a representation is 0
--     all_kept      a cut that leaves each word as it is leaves out no bit
use Rattle.std.proofs.Common.{◌≡◌, ◌<◌, ◌≤◌, ◌⊎◌, inl, inr, ℕ, suc, zero, ◌+◌, ◌-◌, ◌*◌, ◌/◌, ◌%◌, ◌^◌, true, false, ◌&&◌, List, [], ◌∷◌, ◌++◌, length, refl, sym, ap, ◌∙◌, subst, arith, mod-lt, nat_lt, nat_le, slice_index, sum_by, filter, min}
use Rattle.std.proofs.Math.Nat.{div-add-mod}
use Rattle.std.proofs.lemmas.Bool.{cases_lt}
use Rattle.std.proofs.lemmas.Bool.Decides.{nat_tests}
use Rattle.std.proofs.lemmas.Grind.{same_number_lists}
use Rattle.std.proofs.lemmas.List.{get_or_past}
use Rattle.std.proofs.lemmas.List.FromFn.{get_or-map-range_with_len, length-map-range_with_len, map-range_with_len_more}
use Rattle.enumset_repr.specs.BitSet.{BitSet, contains, empty, below, is_subset, low}
use Rattle.enumset_repr.specs.Number.{bits, number}
use Rattle.enumset_repr.specs.Words.{word, words, bits_of, is_in_word, with_word, upward_shift}
use Rattle.enumset_repr.specs.Laws.Ascending.{ascending_empty}
use Rattle.enumset_repr.specs.Laws.Members.{same_set, contains_empty, contains_union, contains_below, contains_low, contains_is_subset, contains_past, members}
use Rattle.enumset_repr.specs.Laws.Numbers.{same_number, number_bits, bits_zero, bits_within, number_within}
use Rattle.enumset_repr.specs.Laws.Words.{contains_upward_shift, contains_bits_word, contains_with_word, word_bits}
use Rattle.enumset_repr.specs.Laws.Widths.{within_from_low, low_within, low_narrow, is_subset_wider}

-- ---- bits past a number, and sets shifted upward

-- a number of k bits has no bit at or past k
pub contains_bits_above : (n k b : ℕ) → n < 2 ^ k → k ≤ b → contains (bits n) b ≡ false
contains_bits_above n k b small past = contains_past (bits n) k b (bits_within n k small) past

-- ---- the set of a list of words

-- the bits of the word at place w, each 64 w + b
pub contains_bits_of : (ws : List ℕ) (w b : ℕ) → ((i : ℕ) → slice_index ws i < 2 ^ 64) → b < 64 → contains (bits_of ws) (64 * w + b) ≡ contains (bits (slice_index ws w)) b
unfolding bits_of
contains_bits_of [] w b fit small = contains_empty _ ∙ sym (ap (λ s. contains s b) bits_zero ∙ contains_empty b)
contains_bits_of (n ∷ ns) zero b fit small =
    let here : 64 * zero + b ≡ b = omega arith in
    ap (contains (bits_of (n ∷ ns))) here ∙ contains_union (bits n) (upward_shift (bits_of ns) 64) b ∙ grind (arith, nat_tests, contains_upward_shift (bits_of ns) 64 b)
contains_bits_of (n ∷ ns) (suc w) b fit small =
    let q : ℕ = 64 * suc w + b in
    let lower : q - 64 ≡ 64 * w + b = omega arith in
    let here = ap (contains (bits_of ns)) lower ∙ contains_bits_of ns w b (λ i. fit (suc i)) small in
    let none = contains_bits_above n 64 q (fit zero) (omega arith) in
    contains_union (bits n) (upward_shift (bits_of ns) 64) q ∙ grind (arith, nat_tests, contains_upward_shift (bits_of ns) 64 q)

-- a fact about a number, by its word and its bit in the word
pub by_word : (P : ℕ → Type 0) → ((w r : ℕ) → r < 64 → P (64 * w + r)) → (q : ℕ) → P q
by_word P each q = subst P (div-add-mod q 64) (each (q / 64) (q % 64) (mod-lt q (omega arith)))

pub contains_zero : (n b : ℕ) → n ≡ 0 → contains (bits n) b ≡ false
contains_zero n b zero_word = ap (λ m. contains (bits m) b) zero_word ∙ ap (λ s. contains s b) bits_zero ∙ contains_empty b

-- ---- its words

-- a word below 2 ^ 64 is determined by its bits below 64
same_word : (x y : ℕ) → x < 2 ^ 64 → ((b : ℕ) → contains (bits y) b ≡ (contains (bits x) b && nat_lt b 64)) → y ≡ x
same_word x y small each = same_number y x (λ b. let above = contains_bits_above x 64 b small in each b ∙ grind (arith, nat_tests))

pub word_bits_of : (ws : List ℕ) (w : ℕ) → ((i : ℕ) → slice_index ws i < 2 ^ 64) → word (bits_of ws) w ≡ slice_index ws w
word_bits_of ws w fit = same_word (slice_index ws w) (word (bits_of ws) w) (fit w) (λ b. let here = contains_bits_of ws w b fit in contains_bits_word (bits_of ws) w b ∙ grind (arith, nat_tests))

-- the words of the set of us are those of ws, which may have zeros after the words of us
pub words_bits_of : (us ws : List ℕ) → ((i : ℕ) → slice_index us i < 2 ^ 64) → ((i : ℕ) → slice_index us i ≡ slice_index ws i) → words (bits_of us) (length ws) ≡ ws
unfolding words
words_bits_of us ws fit same = same_number_lists _ ws (length-map-range_with_len (word (bits_of us)) 0 (length ws)) (λ k under.
    let low : k < length ws = omega (arith, under, length-map-range_with_len (word (bits_of us)) 0 (length ws)) in
    get_or-map-range_with_len (word (bits_of us)) 0 (length ws) k k 0 low (omega arith) ∙ word_bits_of us k fit ∙ same k)

pub word_empty : (w : ℕ) → word empty w ≡ 0
unfolding word
word_empty w = ap (λ bs. sum_by (λ b. 2 ^ (b - 64 * w)) (filter (is_in_word w) bs)) ascending_empty

pub bits_of_zeros : (ws : List ℕ) → ((i : ℕ) → slice_index ws i < 2 ^ 64) → ((i : ℕ) → slice_index ws i ≡ 0) → bits_of ws ≡ empty
bits_of_zeros ws fit none = same_set (bits_of ws) empty (λ q. by_word (λ p. contains (bits_of ws) p ≡ false) (λ w b small. contains_bits_of ws w b fit small ∙ contains_zero _ b (none w)) q ∙ sym (contains_empty q))

-- ---- the words of a set

pub words_none : (s : BitSet) → words s 0 ≡ []
unfolding words
words_none s = refl

pub words_more : (s : BitSet) (n : ℕ) → words s (n + 1) ≡ words s n ++ word s n ∷ []
unfolding words
words_more s n = map-range_with_len_more (word s) 0 n n (omega arith)

pub length_words : (s : BitSet) (n : ℕ) → length (words s n) ≡ n
unfolding words
length_words s n = length-map-range_with_len (word s) 0 n

pub slice_index_words : (s : BitSet) (n i : ℕ) → i < n → slice_index (words s n) i ≡ word s i
unfolding words
slice_index_words s n i under = get_or-map-range_with_len (word s) 0 n i i 0 under (omega arith)

pub slice_index_words_past : (s : BitSet) (n i : ℕ) → n ≤ i → slice_index (words s n) i ≡ 0
slice_index_words_past s n i past = get_or_past (words s n) i 0 (omega (arith, past, length_words s n))

-- a word is a number of 64 bits
pub word_small : (s : BitSet) (w : ℕ) → word s w < 2 ^ 64
word_small s w = subst (λ n. n < 2 ^ 64) (number_bits (word s w)) (number_within (bits (word s w)) 64 (contains_is_subset _ _ (λ b one. let cut = contains_bits_word s w b in grind (arith, contains_below 64 b))))

pub words_fit : (s : BitSet) (n i : ℕ) → slice_index (words s n) i < 2 ^ 64
words_fit s n i = elim (cases_lt i n) [
  | inl under ↦ subst (λ x. x < 2 ^ 64) (sym (slice_index_words s n i under)) (word_small s i)
  | inr past ↦ omega (arith, slice_index_words_past s n i past)
]

pub bits_of_words : (s : BitSet) (n : ℕ) → bits_of (words s n) ≡ low s (64 * n)
bits_of_words s n = same_set _ _ (by_word (λ q. contains (bits_of (words s n)) q ≡ contains (low s (64 * n)) q) (λ w b small.
    contains_bits_of (words s n) w b (words_fit s n) small ∙ at w b small (cases_lt w n) ∙ sym (contains_low s (64 * n) (64 * w + b))))
  where
    at : (w b : ℕ) → b < 64 → (w < n) ⊎ (n ≤ w) → contains (bits (slice_index (words s n) w)) b ≡ (contains s (64 * w + b) && nat_lt (64 * w + b) (64 * n))
    at w b small (inl under) = ap (λ x. contains (bits x) b) (slice_index_words s n w under) ∙ contains_bits_word s w b ∙ grind (arith, nat_tests)
    at w b small (inr past) = contains_zero _ b (slice_index_words_past s n w past) ∙ grind (arith, nat_tests)

-- ---- the words past a width

pub word_past : (s : BitSet) (n w : ℕ) → is_subset s (below n) ≡ true → n ≤ 64 * w → word s w ≡ 0
word_past s n w within past = same_word 0 (word s w) (omega arith) (λ b.
    let none = contains_past s n (64 * w + b) within (omega (arith, past)) in contains_bits_word s w b ∙ grind (arith, contains_zero 0 b refl))

pub within_words : (s : BitSet) (n : ℕ) → ((w : ℕ) → n ≤ w → word s w ≡ 0) → is_subset s (below (64 * n)) ≡ true
within_words s n none = contains_is_subset _ _ (by_word (λ q. contains s q ≡ true → contains (below (64 * n)) q ≡ true) (λ w b small one.
    let past = λ (from : n ≤ w). contains_zero (word s w) b (none w from) in
    contains_below (64 * n) (64 * w + b) ∙ grind (arith, nat_tests, contains_bits_word s w b)))

pub bits_of_within : (ws : List ℕ) → ((i : ℕ) → slice_index ws i < 2 ^ 64) → is_subset (bits_of ws) (below (64 * length ws)) ≡ true
bits_of_within ws fit = within_words (bits_of ws) (length ws) (λ w past. word_bits_of ws w fit ∙ get_or_past ws w 0 past)

-- ---- one word after another

-- the bits of a word of a set, shifted to their places in the set
word_there : (s : BitSet) (i q : ℕ) → (nat_le (64 * i) q && contains (bits (word s i)) (q - 64 * i)) ≡ (contains s q && is_in_word i q)
word_there s i q =
    let place = λ (from : 64 * i ≤ q). let e : 64 * i + (q - 64 * i) ≡ q = omega (arith, from) in ap (contains s) e in
    grind (arith, nat_tests, contains_bits_word s i (q - 64 * i))

pub put_next : (s : BitSet) (width i : ℕ) → with_word (low (low s (64 * i)) width) width i (word s i) ≡ low (low s (64 * (i + 1))) width
put_next s width i = same_set _ _ (λ q. grind (arith, nat_tests, contains_low, contains_with_word, word_there s i q))

-- a set is below a width if a cut at this width leaves each of its words as it is
pub low_same_words : (s : BitSet) (width n : ℕ) → is_subset s (below (64 * n)) ≡ true → ((w : ℕ) → w < n → word (low s width) w ≡ word s w) → is_subset s (below width) ≡ true
low_same_words s width n within same = within_from_low s width (same_set _ _ (by_word (λ q. contains (low s width) q ≡ contains s q) (λ w b small.
    let here = λ (under : w < n). ap (λ x. contains (bits x) b) (same w under) in
    let past = contains_past s (64 * n) (64 * w + b) within in
    grind (arith, nat_tests, contains_bits_word (low s width) w b, contains_bits_word s w b, contains_low s width (64 * w + b)))))

-- ---- one word, and two

pub number_word : (s : BitSet) (ws : List ℕ) → ws ≡ words s 1 → slice_index ws 0 ≡ number (low s 64)
number_word s ws is =
    (λ i. slice_index (is i) 0) ∙ slice_index_words s 1 0 (omega arith) ∙ sym (number_bits (word s 0))
    ∙ ap number (same_set _ _ (λ q. let place : 64 * 0 + q ≡ q = omega arith in contains_bits_word s 0 q ∙ ap (λ n. contains s n && nat_lt q 64) place ∙ sym (contains_low s 64 q)))

pub bits_of_halves : (n : ℕ) → n < 2 ^ 128 → bits_of (n % 2 ^ 64 ∷ n / 2 ^ 64 ∷ []) ≡ bits n
unfolding words
bits_of_halves n fits =
    let lower : n / 2 ^ (64 * 0) % 2 ^ 64 ≡ n % 2 ^ 64 = omega arith in
    let upper : n / 2 ^ (64 * 1) % 2 ^ 64 ≡ n / 2 ^ 64 = omega (arith, fits) in
    let list : words (bits n) 2 ≡ n % 2 ^ 64 ∷ n / 2 ^ 64 ∷ [] = λ i. (word_bits n 0 ∙ lower) i ∷ (word_bits n 1 ∙ upper) i ∷ [] in
    sym (ap bits_of list) ∙ bits_of_words (bits n) 2 ∙ low_within (bits n) 128 (bits_within n 128 fits)

joined_halves : (l h : ℕ) → l < 2 ^ 64 → h < 2 ^ 64 → (h * 2 ^ 64 + l < 2 ^ 128) × ((h * 2 ^ 64 + l) % 2 ^ 64 ≡ l) × ((h * 2 ^ 64 + l) / 2 ^ 64 ≡ h)
joined_halves l h small also = (omega (arith, small, also), omega (arith, small, also), omega (arith, small, also))

pub number_words : (s : BitSet) (ws : List ℕ) → ws ≡ words s 2 → slice_index ws 1 * 2 ^ 64 + slice_index ws 0 ≡ number (low s 128)
unfolding words
number_words s ws is =
    let parts = joined_halves (word s 0) (word s 1) (word_small s 0) (word_small s 1) in
    (λ i. slice_index (is i) 1 * 2 ^ 64 + slice_index (is i) 0) ∙ sym (number_bits (word s 1 * 2 ^ 64 + word s 0))
    ∙ ap number (sym (bits_of_halves (word s 1 * 2 ^ 64 + word s 0) parts.0) ∙ (λ i. bits_of (parts.1 i ∷ parts.2 i ∷ [])) ∙ bits_of_words s 2)

-- ---- the loop that fills a representation with the words of a list

-- before the first word the set is empty
pub none_put : (s : BitSet) (width : ℕ) → low (low s (64 * 0)) width ≡ empty
none_put s width = same_set _ _ (λ q. grind (arith, members, nat_tests))

-- each word past the last word of a representation is 0
pub word_past_repr : (s : BitSet) (width n w : ℕ) → is_subset s (below width) ≡ true → n ≡ (width + 63) / 64 → n ≤ w → word s w ≡ 0
word_past_repr s width n w within count past = word_past s width w within (omega (arith, count, past))

-- after the last word of the list or of the representation, all bits below the width are in
pub all_put : (ws : List ℕ) (width n i : ℕ) → ((k : ℕ) → slice_index ws k < 2 ^ 64) → n ≡ (width + 63) / 64 → min (length ws) n ≤ i → low (low (bits_of ws) (64 * i)) width ≡ low (bits_of ws) width
all_put ws width n i fit count done = elim (cases_lt i (length ws)) [
  | inl under ↦ low_narrow (bits_of ws) (64 * i) width (omega (arith, count, done, under))
  | inr past ↦ ap (λ s. low s width) (low_within (bits_of ws) (64 * i) (is_subset_wider (bits_of ws) (64 * length ws) (64 * i) (omega (arith, past)) (bits_of_within ws fit)))
]

-- a cut that leaves each word of a list as it is leaves out no bit
pub all_kept : (ws : List ℕ) (width : ℕ) → ((k : ℕ) → slice_index ws k < 2 ^ 64) → ((w : ℕ) → w < length ws → word (low (bits_of ws) width) w ≡ slice_index ws w) → is_subset (bits_of ws) (below width) ≡ true
all_kept ws width fit kept = low_same_words (bits_of ws) width (length ws) (bits_of_within ws fit) (λ w under. kept w under ∙ sym (word_bits_of ws w fit))
