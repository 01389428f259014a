-- Two lists of words that are compared from the top, down to the highest place where they differ.
use Rattle.std.proofs.Common.{◌≡◌, ◌≢◌, ◌<◌, ◌≤◌, ℕ, zero, suc, ◌+◌, true, List, ◌∷◌, ◌++◌, length, drop, refl, sym, ap, ◌∙◌, arith, slice_index, bit_xor, Ordering, Equal, nat_cmp}
use Rattle.std.proofs.lemmas.Bool.Decides.{nat_tests}
use Rattle.std.proofs.lemmas.Simd.{length-chunk, chunk-drop}
use Rattle.std.specs.Cmp.{ranks, tied_itself}
use Rattle.std.specs.Cmp.Lexicographic.{same_text}
use Rattle.std.specs.Ordering.{MatchOrdering, ordering_then}
use Rattle.std.specs.Simd.Lanes.{zip2, chunk}
use Rattle.enumset_array.proofs.WordLanes.{none_in, none_apart}
use Rattle.enumset_array.specs.Laws.Order.{highest_first_cons, highest_first_total}
use Rattle.enumset_array.specs.Order.{highest_first}

-- ---- what decides

-- lists that are equal from place 0 on compare as equal
pub all_equal : (a b : List ℕ) (i : ℕ) → i ≡ 0 → drop i a ≡ drop i b → Equal ≡ highest_first a b
all_equal a b i none same =
    let whole : a ≡ b = ap (λ n. drop n a) (sym none) ∙ same ∙ ap (λ n. drop n b) none in
    sym (ap (highest_first a) (sym whole) ∙ tied_itself highest_first_total a)

kept : (o p : Ordering) (u v : ℕ) → MatchOrdering o (u < v) (u ≡ v) (v < u) → u ≢ v → ordering_then o p ≡ o
kept o p u v h apart = grind (arith, nat_tests, h, apart)

-- the words at place i decide how the lists compare, if these two words differ and all words after them are equal
pub decides_order : (a b : List ℕ) (i : ℕ) → length a ≡ length b → i < length a → slice_index a i ≢ slice_index b i → drop (suc i) a ≡ drop (suc i) b
    → highest_first a b ≡ nat_cmp (slice_index a i) (slice_index b i)
decides_order (x ∷ a) (y ∷ b) zero long under apart same =
    highest_first_cons x y a b (omega (arith, long)) ∙ ap (λ o. ordering_then o (nat_cmp x y)) (sym (all_equal a b 0 refl same))
decides_order (x ∷ a) (y ∷ b) (suc i) long under apart same =
    highest_first_cons x y a b (omega (arith, long))
    ∙ ap (λ o. ordering_then o (nat_cmp x y)) (decides_order a b i (omega (arith, long)) (omega (arith, under)) apart same)
    ∙ kept _ (nat_cmp x y) _ _ (ranks (slice_index a i) (slice_index b i)) apart
decides_order a b i long under apart same = absurd (omega (arith, long, under))

-- ---- lists that are equal from a place on

-- lists that are equal from the place i + n on, and in the n words below that place, are equal from place i on
pub block_lower : (a b : List ℕ) (i n end : ℕ) → end ≡ i + n → length a ≡ length b → end ≤ length a → none_in (zip2 bit_xor (chunk i n a) (chunk i n b)) ≡ true
    → drop end a ≡ drop end b → drop i a ≡ drop i b
block_lower a b i n end next long under none same =
    let as_long : length (chunk i n a) ≡ length (chunk i n b) = length-chunk i n a (omega (arith, next, under)) ∙ sym (length-chunk i n b (omega (arith, next, long, under))) in
    let here : chunk i n a ≡ chunk i n b = same_text _ _ (sym none ∙ none_apart _ _ as_long) in
    chunk-drop i n a ∙ (λ k. here k ++ (ap (λ m. drop m a) (sym next) ∙ same ∙ ap (λ m. drop m b) next) k) ∙ sym (chunk-drop i n b)
