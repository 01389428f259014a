-- The words of two `ArrayRepr` compare as the sets that they represent.
--     highest_first_total, highest_first_partial, highest_first_ties      the order is total, and only equal lists
--         compare as equal
--     highest_first_cons      the first words of two lists decide only if the words after them are equal
--     compare_is      the words of two `ArrayRepr` compare as their sets
use Rattle.std.proofs.Common.{◌≡◌, ◌<◌, ℕ, suc, ◌+◌, ◌*◌, ◌^◌, true, List, [], ◌∷◌, ◌++◌, length, Some, refl, sym, ap, ◌∙◌, arith, nat_eq, reverse, Ordering, Less, Equal, Greater, nat_cmp}
use Rattle.std.proofs.lemmas.Bool.Decides.{nat_tests}
use Rattle.std.proofs.lemmas.Cmp.{nat_list_eq_equiv}
use Rattle.std.proofs.lemmas.List.{length-reverse, reverse-append, reverse-reverse}
use Rattle.std.specs.Cmp.{IsTotalOrder, IsPartialOrder, nat_cmp_total, unsigned_ties, on_total, po, both_ways}
use Rattle.std.specs.Cmp.Lexicographic.{slice_cmp, pointwise, lists_total, lists_ties, same_text}
use Rattle.std.specs.Ordering.{ordering_then, eq_by_cmp}
use Rattle.enumset_repr.specs.Laws.Order.{compare_number}
use Rattle.enumset_repr.specs.Order.{compare}
use Rattle.enumset_array.specs.ArrayWords.{set_of, IsArrayRepr}
use Rattle.enumset_array.specs.Laws.Values.{value, AllFit, number_is}
use Rattle.enumset_array.specs.Order.{highest_first}

-- ---- lists of words compare as their numbers do

then_equal : (o : Ordering) → ordering_then o Equal ≡ o
then_equal Less = refl
then_equal Equal = refl
then_equal Greater = refl

then_then : (o p r : Ordering) → ordering_then o (ordering_then p r) ≡ ordering_then (ordering_then o p) r
then_then o p r = grind (arith, nat_tests)

-- the last items decide only if the items before them are equal
slice_cmp-push : (xs ys : List ℕ) (x y : ℕ) → length xs ≡ length ys → slice_cmp nat_cmp (xs ++ x ∷ []) (ys ++ y ∷ []) ≡ ordering_then (slice_cmp nat_cmp xs ys) (nat_cmp x y)
slice_cmp-push [] [] x y long = then_equal (nat_cmp x y)
slice_cmp-push (a ∷ xs) (b ∷ ys) x y long = ap (ordering_then (nat_cmp a b)) (slice_cmp-push xs ys x y (omega (arith, long))) ∙ then_then (nat_cmp a b) (slice_cmp nat_cmp xs ys) (nat_cmp x y)
slice_cmp-push xs ys x y long = absurd (omega (arith, long))

-- the first words decide only if the words after them are equal
pub highest_first_cons : (x y : ℕ) (xs ys : List ℕ) → length xs ≡ length ys → highest_first (x ∷ xs) (y ∷ ys) ≡ ordering_then (highest_first xs ys) (nat_cmp x y)
highest_first_cons x y xs ys long =
    (λ i. slice_cmp nat_cmp (reverse-append (x ∷ []) xs i) (reverse-append (y ∷ []) ys i))
    ∙ slice_cmp-push (reverse xs) (reverse ys) x y (length-reverse xs ∙ long ∙ sym (length-reverse ys))

then_numbers : (a b x y : ℕ) → x < 2 ^ 64 → y < 2 ^ 64 → ordering_then (nat_cmp a b) (nat_cmp x y) ≡ nat_cmp (a * 2 ^ 64 + x) (b * 2 ^ 64 + y)
then_numbers a b x y fit_x fit_y = grind (arith, nat_tests)

by_value : (a b : List ℕ) → AllFit a → AllFit b → length a ≡ length b → highest_first a b ≡ nat_cmp (value a) (value b)
by_value [] [] p q long = refl
by_value (x ∷ xs) (y ∷ ys) p q long =
    let shorter : length xs ≡ length ys = omega (arith, long) in
    highest_first_cons x y xs ys shorter
    ∙ ap (λ o. ordering_then o (nat_cmp x y)) (by_value xs ys (λ i. p (suc i)) (λ i. q (suc i)) shorter)
    ∙ then_numbers (value xs) (value ys) x y (p 0) (q 0)
by_value a b p q long = absurd (omega (arith, long))

pub compare_is : (n : ℕ) (a b : List ℕ) → IsArrayRepr n a → IsArrayRepr n b → highest_first a b ≡ compare (set_of n a) (set_of n b)
compare_is n a b p q =
    by_value a b p.fit q.fit (p.long ∙ sym q.long)
    ∙ (λ i. nat_cmp (sym (number_is n a p) i) (sym (number_is n b q) i)) ∙ sym (compare_number (set_of n a) (set_of n b))

-- ---- what `Ord` requires

pub highest_first_total : IsTotalOrder highest_first
highest_first_total = on_total reverse (lists_total nat_cmp_total)

pub highest_first_ties : (a b : List ℕ) → pointwise nat_eq a b ≡ eq_by_cmp highest_first a b
highest_first_ties a b =
    both_ways _ _ (λ same. itself (reverse a) (reverse b) (ap reverse (same_text a b (sym same)))) (λ same. itself a b (sym (reverse-reverse a) ∙ ap reverse (same_text (reverse a) (reverse b) (sym same)) ∙ reverse-reverse b))
    ∙ lists_ties nat_cmp unsigned_ties (reverse a) (reverse b)
  where
    itself : (xs ys : List ℕ) → xs ≡ ys → pointwise nat_eq xs ys ≡ true
    itself xs ys same = ap (pointwise nat_eq xs) (sym same) ∙ nat_list_eq_equiv.refl xs

pub highest_first_partial : IsPartialOrder (pointwise nat_eq) (λ a b. Some (highest_first a b))
highest_first_partial = po highest_first_total highest_first_ties
