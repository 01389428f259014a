-- The laws of the words of an `ArrayRepr`.
--     past_is, empty_past      the words past those in use are 0
--     used_is, used_fit      the words in use
--     contains_set_of      64 w + b is a member exactly if b is a bit of word w
--     set_is      the set, by the bits of each word
--     word_is, inverse      the words of the set are the words of the `ArrayRepr`
--     within      each member is below 64 times the number of words in use
--     represented, is_value      the words of a set below that bound represent it;  they are an `ArrayRepr`
--     repr_of_none, set_of_none      the words of the empty set are all 0
--     none_iff      the set is empty exactly if each word is 0
--     equal      lists of words are equal exactly if their sets are
--     same_hash      lists of words that feed a hasher the same data are equal
--     width_words      there are as many words as the width needs
use Rattle.std.proofs.Common.{eqb-true, zero, suc, false, nat_lt, ◌||◌, [], ◌∷◌, refl, ◌≡◌, ◌<◌, ◌≤◌, ℕ, ◌+◌, ◌-◌, ◌*◌, ◌/◌, ◌^◌, true, List, length, drop, sym, ap, ◌∙◌, subst, arith, ◌↔◌, lit<, ◌==◌, IsTrue, nat_eq, slice_index, replicate, get_or-take, get_or-drop, length-take, inl, inr}
use Rattle.std.proofs.lemmas.Bool.{and_parts, and_from, or_right, cases_lt}
use Rattle.std.proofs.lemmas.Bool.Decides.{nat_tests}
use Rattle.std.proofs.lemmas.Cmp.{nat_list_eq_equiv}
use Rattle.std.proofs.lemmas.List.{get_or_past, length-replicate, drop-replicate}
use Rattle.std.specs.Cmp.Lexicographic.{pointwise, same_text}
use Rattle.std.specs.Hash as fed
use Rattle.std.specs.List.{list_all, flat_map}
use Rattle.enumset_repr.specs.BitSet.{BitSet, contains, empty, below, is_subset}
use Rattle.enumset_repr.specs.Laws.Hashes.{same_words}
use Rattle.enumset_repr.specs.Laws.Members.{same_set, contains_empty, contains_past}
use Rattle.enumset_repr.specs.Laws.WordLists.{bits_of_within, contains_bits_of, by_word, contains_zero, word_bits_of, words_bits_of, word_empty, word_past, words_fit, length_words, slice_index_words, slice_index_words_past}
use Rattle.enumset_repr.specs.Laws.Words.{contains_bits_word}
use Rattle.enumset_repr.specs.Number.{bits}
use Rattle.enumset_repr.specs.Words.{word, words}
use Rattle.enumset_array.specs.declared.array_repr.TheConstants.{WORD_LIMIT}
use Rattle.enumset_array.specs.ArrayWords.{array_of, in_use, words_in_use, set_of, is_zero_past, is_empty_past, IsArrayRepr}

-- ---- lists of zeros

each_zero : (ws : List ℕ) (i : ℕ) → list_all (λ w. w == 0) ws ≡ true → slice_index ws i ≡ 0
each_zero [] i all = refl
each_zero (w ∷ ws) zero all = eqb-true w 0 (and_parts (w == 0) _ all).0
each_zero (w ∷ ws) (suc i) all = each_zero ws i (and_parts (w == 0) _ all).1

all_zero : (ws : List ℕ) → ((i : ℕ) → slice_index ws i ≡ 0) → list_all (λ w. w == 0) ws ≡ true
all_zero [] none = refl
all_zero (w ∷ ws) none = and_from (w == 0) _ (subst (λ x. (x == 0) ≡ true) (sym (none 0)) refl) (all_zero ws (λ i. none (suc i)))

none_at : (n i : ℕ) → slice_index (replicate n 0) i ≡ 0
none_at zero i = refl
none_at (suc n) zero = refl
none_at (suc n) (suc i) = none_at n i

all_none : (n : ℕ) → list_all (λ w. w == 0) (replicate n 0) ≡ true
all_none n = all_zero (replicate n 0) (none_at n)

-- ---- the words in use

past_is_zero : (n : ℕ) (ws : List ℕ) (w : ℕ) → IsTrue (is_zero_past n ws) → in_use n ≤ w → slice_index ws w ≡ 0
unfolding is_zero_past
past_is_zero n ws w past from =
    let place : w ≡ in_use n + (w - in_use n) = omega (arith, from) in
    ap (slice_index ws) place ∙ sym (get_or-drop (in_use n) ws (w - in_use n) 0) ∙ each_zero (drop (in_use n) ws) (w - in_use n) past

pub past_is : (n : ℕ) (ws : List ℕ) (w : ℕ) → IsArrayRepr n ws → in_use n ≤ w → slice_index ws w ≡ 0
past_is n ws w is_repr from = elim (nat_lt n WORD_LIMIT) as (λ t. nat_lt n WORD_LIMIT ≡ t → IsTrue (t || is_zero_past n ws) → slice_index ws w ≡ 0) [
  | true ↦ λ small _. let below : n < WORD_LIMIT = grind (arith, nat_tests) in get_or_past ws w 0 (omega (arith, is_repr.long, from, below))
  | false ↦ λ _ past. past_is_zero n ws w past from
] refl is_repr.past

pub used_is : (n : ℕ) (ws : List ℕ) (w : ℕ) → IsArrayRepr n ws → slice_index (words_in_use n ws) w ≡ slice_index ws w
used_is n ws w is_repr =
    let low = get_or-take (in_use n) ws w 0 in
    let none = past_is n ws w is_repr in
    let gone = get_or_past (words_in_use n ws) w 0 in
    grind (arith, length-take (in_use n) ws)

pub empty_past : (n : ℕ) (ws : List ℕ) → ((w : ℕ) → in_use n ≤ w → slice_index ws w ≡ 0) → IsTrue (is_empty_past n ws)
unfolding is_zero_past
empty_past n ws none = or_right (nat_lt n WORD_LIMIT) _ (all_zero (drop (in_use n) ws) (λ i. get_or-drop (in_use n) ws i 0 ∙ none (in_use n + i) (omega arith)))

pub used_fit : (n : ℕ) (ws : List ℕ) → IsArrayRepr n ws → (w : ℕ) → slice_index (words_in_use n ws) w < 2 ^ 64
used_fit n ws is_repr w = subst (λ x. x < 2 ^ 64) (sym (used_is n ws w is_repr)) (is_repr.fit w)

pub contains_set_of : (n : ℕ) (ws : List ℕ) (w b : ℕ) → IsArrayRepr n ws → b < 64 → contains (set_of n ws) (64 * w + b) ≡ contains (bits (slice_index ws w)) b
contains_set_of n ws w b is_repr small = contains_bits_of (words_in_use n ws) w b (used_fit n ws is_repr) small ∙ ap (λ x. contains (bits x) b) (used_is n ws w is_repr)

pub set_is : (n : ℕ) (ws : List ℕ) (s : BitSet) → IsArrayRepr n ws → ((w b : ℕ) → b < 64 → contains (bits (slice_index ws w)) b ≡ contains s (64 * w + b)) → set_of n ws ≡ s
set_is n ws s is_repr each = same_set (set_of n ws) s (by_word (λ q. contains (set_of n ws) q ≡ contains s q) (λ w b small. contains_set_of n ws w b is_repr small ∙ each w b small))

pub word_is : (n : ℕ) (ws : List ℕ) (w : ℕ) → IsArrayRepr n ws → word (set_of n ws) w ≡ slice_index ws w
word_is n ws w is_repr = word_bits_of (words_in_use n ws) w (used_fit n ws is_repr) ∙ used_is n ws w is_repr

pub inverse : (n : ℕ) (ws : List ℕ) → IsArrayRepr n ws → array_of n (set_of n ws) ≡ ws
unfolding array_of
inverse n ws is_repr = ap (words (set_of n ws)) (sym is_repr.long) ∙ words_bits_of (words_in_use n ws) ws (used_fit n ws is_repr) (λ w. used_is n ws w is_repr)

pub within : (n : ℕ) (ws : List ℕ) → IsArrayRepr n ws → IsTrue (is_subset (set_of n ws) (below (64 * in_use n)))
within n ws is_repr =
    let long : length (words_in_use n ws) ≡ in_use n = omega (arith, length-take (in_use n) ws, is_repr.long) in
    subst (λ m. IsTrue (is_subset (set_of n ws) (below (64 * m)))) long (bits_of_within (words_in_use n ws) (used_fit n ws is_repr))

-- of a set below the width, the words past those in use are 0
words_past : (n : ℕ) (s : BitSet) (w : ℕ) → IsTrue (is_subset s (below (64 * in_use n))) → in_use n ≤ w → slice_index (words s n) w ≡ 0
words_past n s w within from = elim (cases_lt w n) [
  | inl under ↦ slice_index_words s n w under ∙ word_past s (64 * in_use n) w within (omega (arith, from))
  | inr past ↦ slice_index_words_past s n w past
]

-- the words of a set below the width are an `ArrayRepr`
pub is_value : (n : ℕ) (s : BitSet) → IsTrue (is_subset s (below (64 * in_use n))) → IsArrayRepr n (array_of n s)
unfolding array_of
is_value n s within = record { long = length_words s n; fit = words_fit s n; past = empty_past n (words s n) (λ w from. words_past n s w within from) }

-- the words of a set below the width represent this set
pub represented : (n : ℕ) (s : BitSet) → IsTrue (is_subset s (below (64 * in_use n))) → set_of n (array_of n s) ≡ s
unfolding array_of
represented n s within = set_is n (words s n) s (is_value n s within) (λ w b small. elim (cases_lt w (in_use n)) [
  | inl under ↦ ap (λ x. contains (bits x) b) (slice_index_words s n w (omega (arith, under))) ∙ contains_bits_word s w b ∙ grind (arith, nat_tests)
  | inr past ↦ contains_zero _ b (words_past n s w within past) ∙ sym (contains_past s (64 * in_use n) (64 * w + b) within (omega (arith, past)))
])

-- ---- no bits

pub repr_of_none : (n : ℕ) → IsArrayRepr n (replicate n 0)
unfolding is_zero_past
repr_of_none n = record {
  long = length-replicate n 0;
  fit = λ i. subst (λ x. x < 2 ^ 64) (sym (none_at n i)) (lit< tt);
  past = or_right (nat_lt n WORD_LIMIT) _ (ap (list_all (λ w. w == 0)) (drop-replicate (in_use n) n 0) ∙ all_none (n - in_use n));
}

pub none_iff : (n : ℕ) (ws : List ℕ) → IsArrayRepr n ws → IsTrue (list_all (λ w. w == 0) ws) ↔ (set_of n ws ≡ empty)
none_iff n ws is_repr = (
  λ none. set_is n ws empty is_repr (λ w b small. contains_zero _ b (each_zero ws w none) ∙ sym (contains_empty _)),
  λ none. all_zero ws (λ w. sym (word_is n ws w is_repr) ∙ ap (λ s. word s w) none ∙ word_empty w),
)

pub set_of_none : (n : ℕ) → set_of n (replicate n 0) ≡ empty
set_of_none n = (none_iff n _ (repr_of_none n)).0 (all_none n)

-- ---- equal words

pub equal : (n : ℕ) (a b : List ℕ) → IsArrayRepr n a → IsArrayRepr n b → IsTrue (pointwise nat_eq a b) ↔ (set_of n a ≡ set_of n b)
equal n a b p q = (
  λ same. ap (set_of n) (same_text a b (sym same)),
  λ same. let e : a ≡ b = sym (inverse n a p) ∙ ap (array_of n) same ∙ inverse n b q in subst (λ c. pointwise nat_eq a c ≡ true) e (nat_list_eq_equiv.refl a),
)

-- a list of words feeds its length first, and then each word
pub same_hash : (n : ℕ) (a b : List ℕ) → IsArrayRepr n a → IsArrayRepr n b → fed.slice fed.u64 a ≡ fed.slice fed.u64 b → a ≡ b
same_hash n a b p q same =
    let others : flat_map fed.u64 a ≡ flat_map fed.u64 b = cc in
    same_words a b (p.long ∙ sym q.long) p.fit q.fit others

pub width_words : (n : ℕ) → in_use n ≡ (64 * in_use n + 63) / 64
width_words n = omega arith
