-- The words of JSON arrays, read one by one into a set.
use Rattle.std.proofs.Common.{◌≡◌, ◌<◌, ◌≤◌, ℕ, ◌+◌, ◌*◌, ◌/◌, ◌^◌, Bool, true, false, ◌&&◌, if◌then◌else◌, inl, inr, Option, Some, is_none, unwrap_or, ok_or, Ok, List, map, drop, get_or, length, refl, sym, ap, subst, ◌∙◌, arith, slice_index, eqb-true, eq-eqb, ltb-false, Decides, ◌==◌, nat_lt}
use Rattle.std.proofs.lemmas.Bool.{cases_lt, and_parts, and_from}
use Rattle.std.proofs.lemmas.Bool.Decides.{nat_tests, same_from_decides}
use Rattle.std.proofs.lemmas.Iterator.Adapters.{position_from-zero}
use Rattle.std.proofs.lemmas.List.{get_or_past, get_or-map, length-map}
use Rattle.std.proofs.lemmas.Simd.{map-map}
use Rattle.std.specs.List.{position_from}
use Rattle.serde_json.specs.Data.{Data}
use Rattle.serde_json.specs.Find.{as_array}
use Rattle.serde_json.specs.View.{view, items_view}
use Rattle.serde_json.specs.declared.value.Value.{Value}
use Rattle.enumset_repr.specs.BitSet.{BitSet, empty, contains, is_subset, below, low}
use Rattle.enumset_repr.specs.Laws.Members.{contains_low}
use Rattle.enumset_repr.specs.Laws.Numbers.{same_number}
use Rattle.enumset_repr.specs.Laws.Widths.{low_within, low_narrow, is_subset_wider}
use Rattle.enumset_repr.specs.Laws.WordLists.{word_bits_of, put_next, bits_of_within, none_put, all_kept}
use Rattle.enumset_repr.specs.Laws.Words.{contains_bits_word}
use Rattle.enumset_repr.specs.Words.{word, with_word, bits_of}
use Rattle.enumset.proofs.JsonLaws.{values_back}
use Rattle.enumset.proofs.NameLists.{left_at}
use Rattle.enumset.specs.Json.{held_word, is_no_word, held_words, and_then, unless_fault, values_of, words_among, words_in}
use Rattle.enumset.specs.declared.set_json.fault.JsonFault.TheVariants.{NotAnArray, NotAWord}

pub length-held_words : (vs : List Value) → length (held_words (map view vs)) ≡ length vs
length-held_words vs = length-map (map view vs) (λ value. unwrap_or (held_word value) 0) ∙ length-map vs view

-- the index of the first element, from an index on, that is not a word
abbrev pub other_from : List Value → ℕ → Option ℕ
other_from vs place = position_from is_no_word place (map view (drop place vs))

module _ (vs : List Value) (place : ℕ) (v : Value) (o : Option ℕ) (under : place < length vs) (is : v ≡ get_or vs place v) (seen : o ≡ held_word (view v)) where
  pub other_at : other_from vs place ≡ (if is_none o then Some place else other_from vs (place + 1))
  other_at =
      ap (λ us. position_from is_no_word place (map view us)) (left_at vs place v under is) ∙ ap (λ w. if is_none w then Some place else other_from vs (place + 1)) (sym seen)

  pub word_here : (x : ℕ) → o ≡ Some x → x ≡ slice_index (held_words (map view vs)) place
  word_here x found =
      ap (λ w. unwrap_or w 0) (sym found ∙ seen) ∙ ap (λ u. unwrap_or (held_word (view u)) 0) is
      ∙ sym (ap (λ ws. slice_index ws place) (map-map (λ value. unwrap_or (held_word value) 0) view vs) ∙ get_or-map (λ u. unwrap_or (held_word (view u)) 0) vs place v 0 under)

-- what an array is read as
pub words_read : (d : Data) (vs : List Value) (found : Option ℕ) → as_array d ≡ Some (items_view vs) → other_from vs 0 ≡ found → words_in d ≡ unless_fault NotAWord found (Ok (held_words (map view vs)))
words_read d vs found is other =
    ap (λ o. and_then (ok_or o NotAnArray) (λ items. words_among (values_of items))) is ∙ ap words_among (values_back (map view vs))
    ∙ ap (λ o. unless_fault NotAWord o (Ok (held_words (map view vs)))) (position_from-zero is_no_word (map view vs) ∙ other)

-- whether a set has the words of a list before an index
abbrev pub Has : BitSet → List ℕ → ℕ → Type 0
Has s ws place = (w : ℕ) → w < place → word s w ≡ slice_index ws w

-- a set has the words before an index, and `is_whole` says whether a width cuts none of them
pub record AreRead (ws : List ℕ) (place width : ℕ) (s : BitSet) (is_whole : Bool) : Type 0 where
  pub small : (w : ℕ) → w < place → slice_index ws w < 2 ^ 64
  pub put : (t : BitSet) → Has t ws place → s ≡ low (low t (64 * place)) width
  pub whole : (t : BitSet) → Has t ws place → Decides is_whole (Has (low t width) ws place)

none_read : (ws : List ℕ) (width : ℕ) → AreRead ws 0 width empty true
none_read ws width = record {
  small = λ w under. absurd (omega (arith, under));
  put = λ t has. sym (none_put t width);
  whole = λ t has. (λ _ w under. absurd (omega (arith, under)), λ _. refl);
}

pub begun : (ws : List ℕ) (width : ℕ) (s : BitSet) (is_whole : Bool) → s ≡ empty → is_whole ≡ true → AreRead ws 0 width s is_whole
begun ws width s is_whole none whole = subst (λ s. AreRead ws 0 width s is_whole) (sym none) (subst (AreRead ws 0 width empty) (sym whole) (none_read ws width))

one_more : (P : ℕ → Type 0) (place : ℕ) → ((w : ℕ) → w < place → P w) → P place → (w : ℕ) → w < place + 1 → P w
one_more P place before here w under = elim (cases_lt w place) [
  | inl less ↦ before w less
  | inr past ↦ subst P (omega (arith, under, past)) here
]

word-low : (s : BitSet) (width w : ℕ) → word (low (low s (64 * (w + 1))) width) w ≡ word (low s width) w
word-low s width w = same_number _ _ (λ b.
    contains_bits_word _ w b
    ∙ ap (λ t. t && nat_lt b 64) (contains_low _ width (64 * w + b) ∙ ap (λ t. t && nat_lt (64 * w + b) width) (contains_low s (64 * (w + 1)) (64 * w + b)))
    ∙ under (contains s (64 * w + b)) b
    ∙ sym (contains_bits_word _ w b ∙ ap (λ t. t && nat_lt b 64) (contains_low s width (64 * w + b))))
  where
    under : (c : Bool) (b : ℕ) → (((c && nat_lt (64 * w + b) (64 * (w + 1))) && nat_lt (64 * w + b) width) && nat_lt b 64) ≡ ((c && nat_lt (64 * w + b) width) && nat_lt b 64)
    under c b = grind (arith, nat_tests)

module _ (ws : List ℕ) (place width : ℕ) (s : BitSet) (is_whole : Bool) (before : AreRead ws place width s is_whole) where
  pub put_in : (x : ℕ) (r : BitSet) → x ≡ slice_index ws place → r ≡ with_word s width place x → (t : BitSet) → Has t ws (place + 1) → r ≡ low (low t (64 * (place + 1))) width
  put_in x r is made t has =
      made ∙ (λ j. with_word (before.put t (λ w under. has w (omega (arith, under))) j) width place ((is ∙ sym (has place (omega arith))) j)) ∙ put_next t width place

  pub left_out : width ≤ 64 * place → (t : BitSet) → Has t ws (place + 1) → s ≡ low (low t (64 * (place + 1))) width
  left_out past t has =
      before.put t (λ w under. has w (omega (arith, under))) ∙ low_narrow t (64 * place) width past ∙ sym (low_narrow t (64 * (place + 1)) width (omega (arith, past)))

  pub one_read : (x : ℕ) (r : BitSet) → x ≡ slice_index ws place → x < 2 ^ 64 → ((t : BitSet) → Has t ws (place + 1) → r ≡ low (low t (64 * (place + 1))) width)
      → AreRead ws (place + 1) width r (is_whole && (word r place == x))
  one_read x r is fits put = record {
    small = one_more (λ w. slice_index ws w < 2 ^ 64) place before.small (subst (λ n. n < 2 ^ 64) is fits);
    put = put;
    whole = λ t has.
        let rest = before.whole t (λ w under. has w (omega (arith, under))) in
        let same : word r place ≡ word (low t width) place = ap (λ u. word u place) (put t has) ∙ word-low t width place in (
          λ kept. one_more (λ w. word (low t width) w ≡ slice_index ws w) place (rest.0 (and_parts _ _ kept).0) (sym same ∙ eqb-true _ _ (and_parts _ _ kept).1 ∙ is),
          λ kept. and_from _ _ (rest.1 (λ w under. kept w (omega (arith, under)))) (eq-eqb _ _ (same ∙ kept place (omega arith) ∙ sym is)),
        );
  }

  -- one more word is read, and put in if the representation has it
  pub taken : (n x : ℕ) (r : BitSet) (kept : Bool) → n ≡ (width + 63) / 64 → x ≡ slice_index ws place → x < 2 ^ 64
      → r ≡ (if nat_lt place n then with_word s width place x else s) → kept ≡ (is_whole && (word r place == x)) → AreRead ws (place + 1) width r kept
  taken n x r kept count is fits made whole = subst (AreRead ws (place + 1) width r) (sym whole) (one_read x r is fits (at (nat_lt place n) refl))
    where
      at : (b : Bool) → nat_lt place n ≡ b → (t : BitSet) → Has t ws (place + 1) → r ≡ low (low t (64 * (place + 1))) width
      at true under = put_in x r is (made ∙ ap (λ b. if b then with_word s width place x else s) under)
      at false past = λ t has. made ∙ ap (λ b. if b then with_word s width place x else s) past ∙ left_out (omega (arith, count, ltb-false _ _ past)) t has

  -- words that are the same before the index have been read as well
  pub same_before : (us : List ℕ) → ((w : ℕ) → w < place → slice_index us w ≡ slice_index ws w) → AreRead us place width s is_whole
  same_before us same = record {
    small = λ w under. subst (λ x. x < 2 ^ 64) (sym (same w under)) (before.small w under);
    put = λ t has. before.put t (λ w under. has w under ∙ same w under);
    whole = λ t has.
        let decides = before.whole t (λ w under. has w under ∙ same w under) in
        (λ kept w under. decides.0 kept w under ∙ sym (same w under), λ kept. decides.1 (λ w under. kept w under ∙ same w under));
  }

  pub all_read : length ws ≤ place → (s ≡ low (bits_of ws) width) × (is_whole ≡ is_subset (bits_of ws) (below width))
  all_read past = (
    before.put (bits_of ws) has ∙ ap (λ t. low t width) (low_within _ _ (is_subset_wider _ (64 * length ws) (64 * place) (omega (arith, past)) (bits_of_within ws fit))),
    same_from_decides _ _ (before.whole (bits_of ws) has) (
      λ within w under. ap (λ t. word t w) (low_within _ _ within) ∙ has w under,
      λ kept. all_kept ws width fit (λ w under. kept w (omega (arith, under, past))),
    ),
  )
    where
      fit : (w : ℕ) → slice_index ws w < 2 ^ 64
      fit w = elim (cases_lt w place) [
        | inl under ↦ before.small w under
        | inr from ↦ omega (arith, get_or_past ws w 0 (omega (arith, past, from)))
      ]

      has : (w : ℕ) → w < place → word (bits_of ws) w ≡ slice_index ws w
      has w under = word_bits_of ws w fit
