-- Which words of a list differ from the results that replace them.
use Rattle.std.proofs.Common.{◌≡◌, ◌<◌, ◌≤◌, ℕ, ◌+◌, List, [], ◌∷◌, true, length, take, drop, get_or, sym, ap, ◌∙◌, arith, ◌==◌, nat_eq, slice_index, refl, bit_or, bit_xor, take_all, drop_at, length-drop, length-take-le}
use Rattle.std.proofs.lemmas.Bool.Decides.{nat_tests}
use Rattle.std.proofs.lemmas.List.{drop_more}
use Rattle.std.proofs.lemmas.Simd.{length-zip2, get_or-zip2}
use Rattle.std.specs.Cmp.Lexicographic.{pointwise}
use Rattle.std.specs.Simd.Lanes.{zip2, chunk}
use Rattle.enumset_array.proofs.WordLanes.{PartMade, all_made, none_in, none_apart, chunk-zip2, joined_none, one_none, changed_lanes}

same_words : (a b : List ℕ) → length a ≡ length b → pointwise nat_eq a b ≡ true → a ≡ b
same_words [] [] e same = refl
same_words (x ∷ a) (y ∷ b) e same =
    let first : x ≡ y = grind (arith, nat_tests, same) in
    let rest : pointwise nat_eq a b ≡ true = grind (arith, nat_tests, same) in
    (λ i. first i ∷ same_words a b (omega (arith, e)) rest i)
same_words a b e same = absurd (omega (arith, e))

module _ (op : ℕ → ℕ → ℕ) (a b : List ℕ) where
  -- each word of a, combined by `^` with the result that replaces it: 0 exactly if the two are equal
  abbrev pub changes : List ℕ
  changes = zip2 bit_xor a (zip2 op a b)

  module _ (e : length a ≡ length b) where
    length-changes : length changes ≡ length a
    length-changes = length-zip2 bit_xor a (zip2 op a b) (sym (length-zip2 op a b e))

    -- the words from place i on, which are not yet replaced
    kept : (ws : List ℕ) (i : ℕ) → i ≤ length a → PartMade op a b i ws → drop i ws ≡ drop i a
    kept ws i within part = ap (drop i) part ∙ drop_at (take i (zip2 op a b)) (drop i a) i (length-take-le i (zip2 op a b) (omega (arith, within, length-zip2 op a b e)))

    kept_word : (ws : List ℕ) (i : ℕ) → i < length a → PartMade op a b i ws → slice_index ws i ≡ slice_index a i
    kept_word ws i low part =
        let same = kept ws i (omega (arith, low)) part in
        let long : i < length ws = omega (arith, low, ap length same, length-drop i ws, length-drop i a) in
        ap (λ l. get_or l 0 0) (sym (drop_more ws i 0 long) ∙ same ∙ drop_more a i 0 low)

    -- an iteration over four words: the lanes are 0 exactly if no word so far changes
    pub lanes_changed : (ws lanes : List ℕ) (i j : ℕ) → j ≡ i + 4 → j ≤ length a → length lanes ≡ 4 → PartMade op a b i ws → none_in lanes ≡ none_in (take i changes)
        → none_in (zip2 bit_or lanes (zip2 bit_xor (chunk i 4 ws) (zip2 op (chunk i 4 ws) (chunk i 4 b)))) ≡ none_in (take j changes)
    lanes_changed ws lanes i j next within four part before =
        let here : chunk i 4 ws ≡ chunk i 4 a = ap (take 4) (kept ws i (omega (arith, next, within)) part) in
        joined_none changes lanes _ i j
        ((λ m. zip2 bit_xor (here m) (zip2 op (here m) (chunk i 4 b))) ∙ ap (zip2 bit_xor (chunk i 4 a)) (sym (chunk-zip2 op i 4 a b)) ∙ sym (chunk-zip2 bit_xor i 4 a (zip2 op a b)))
        next (omega (arith, within, length-changes)) four before

    -- an iteration over one word: `any` is 0 exactly if no word so far changes
    pub one_changed : (ws : List ℕ) (any i : ℕ) → i < length a → PartMade op a b i ws → (any == 0) ≡ none_in (take i changes)
        → (bit_or any (bit_xor (slice_index ws i) (op (slice_index ws i) (slice_index b i))) == 0) ≡ none_in (take (i + 1) changes)
    one_changed ws any i low part before =
        let here = kept_word ws i low part in
        let made = get_or-zip2 op a b i 0 0 0 low (omega (arith, low, e)) in
        one_none changes any _ i (i + 1)
        ((λ m. bit_xor (here m) (op (here m) (slice_index b i))) ∙ ap (bit_xor (slice_index a i)) (sym made) ∙ sym (get_or-zip2 bit_xor a (zip2 op a b) i 0 0 0 low (omega (arith, low, length-zip2 op a b e))))
        refl (omega (arith, low, length-changes)) before

    -- after all words `any` is 0 exactly if no word has changed
    pub all_changed : (ws : List ℕ) (any i : ℕ) → length a ≤ i → PartMade op a b i ws → (any == 0) ≡ none_in (take i changes) → (any == 0) ≡ pointwise nat_eq a ws
    all_changed ws any i past part before =
        before ∙ ap none_in (take_all i changes (omega (arith, past, length-changes))) ∙ none_apart a (zip2 op a b) (sym (length-zip2 op a b e))
        ∙ ap (pointwise nat_eq a) (sym (all_made op a b ws i e past part))

    -- the test that no word changes, and what follows from it
    pub changes_none : none_in (zip2 (λ x y. bit_xor x (op x y)) a b) ≡ pointwise nat_eq a (zip2 op a b)
    changes_none = ap none_in (sym (changed_lanes op a b)) ∙ none_apart a (zip2 op a b) (sym (length-zip2 op a b e))

    pub none_changes : none_in (zip2 (λ x y. bit_xor x (op x y)) a b) ≡ true → a ≡ zip2 op a b
    none_changes none = same_words a (zip2 op a b) (sym (length-zip2 op a b e)) (sym changes_none ∙ none)

-- the first i words are their own results if none of them changes
pub same_before : (op : ℕ → ℕ → ℕ) (a b : List ℕ) (i : ℕ) → length a ≡ length b → i ≤ length a → none_in (take i (zip2 (λ x y. bit_xor x (op x y)) a b)) ≡ true → take i a ≡ take i (zip2 op a b)
same_before op a b i e within none =
    none_changes op (take i a) (take i b) (length-take-le i a within ∙ sym (length-take-le i b (omega (arith, within, e))))
    (ap none_in (sym (chunk-zip2 (λ x y. bit_xor x (op x y)) 0 i a b)) ∙ none) ∙ sym (chunk-zip2 op 0 i a b)
