-- Rules for a search: the valid bits. They go with `decided` and `counts` of `enumset_repr`. The first parts of a rule
-- are always true: they show the search where to use it.
--     len_valid      how many valid bits there are
--     len_within      a set of valid bits has at most as many members as there are valid bits
--     summed_at, sum_within      a sum over a set of valid bits is at most the sum over all of them
--     valid_below      the valid bits as the numbers below a number, where such a set is in sight
--     valid_retained      the valid bits as a list, where a part of them is in sight
--     sized_at, valid_within      a valid bit is less than one past the greatest of them, where the length of a list is
--         in sight
-- The ruleset `of_valid_bits` has all of them.
use Rattle.std.proofs.Common.{◌≡◌, ◌<◌, ◌≤◌, ◌+◌, ℕ, suc, Bool, true, false, true≢false, ◌&&◌, List, [], ◌∷◌, length, sum_by, refl, sym, ap, ◌∙◌, arith, ◌==◌, nat_le, nat_lt}
use Rattle.std.proofs.lemmas.Bool.Decides.{nat_tests}
use Rattle.enumset_repr.specs.BitSet.{BitSet, is_in, contains, ascending, from_list, retain, below, is_subset, len}
use Rattle.enumset_repr.specs.Lawful.{one_past_all}
use Rattle.enumset_repr.specs.Laws.Counting.{len_subset}
use Rattle.enumset_repr.specs.Laws.Members.{same_set, contains_from_list, contains_below}
use Rattle.enumset_repr.specs.Laws.Sums.{sum_subset, sum_listed}
use Rattle.enumset_repr.specs.Number.{is_distinct}
use Rattle.enumset_repr.specs.Rules.Counts.{counted}
use Rattle.enumset_sets.specs.Elements.{Elements, valid_bits}
use Rattle.enumset_sets.specs.Laws.Elements.{len-from_list}

-- ---- how many

pub len_valid : {T : Type 0} (elements : Elements T) → (len (valid_bits elements) ≡ len (valid_bits elements)) × (is_distinct elements.bit_list ≡ true → len (valid_bits elements) ≡ length elements.bit_list)
unfolding valid_bits
len_valid elements = (refl, len-from_list elements.bit_list)

pub len_within : {T : Type 0} (elements : Elements T) (s : BitSet) (w : Bool) → (is_subset s (valid_bits elements) ≡ is_subset s (valid_bits elements)) × (counted s w ≡ counted s w) × (is_subset s (valid_bits elements) ≡ true → len s ≤ len (valid_bits elements))
len_within elements s w = (refl, refl, len_subset s (valid_bits elements))

-- ---- sums

-- a call that shows a sum over a set
pub summed : (ℕ → ℕ) → BitSet → Bool → Bool
summed f s w = w

pub summed_at : (f : ℕ → ℕ) (s : BitSet) → (sum_by f (ascending s) ≡ sum_by f (ascending s)) × (summed f s true ≡ true)
unfolding summed
summed_at f s = (refl, refl)

pub sum_within : {T : Type 0} (elements : Elements T) (f : ℕ → ℕ) (s : BitSet) (w : Bool) → (is_subset s (valid_bits elements) ≡ is_subset s (valid_bits elements)) × (summed f s w ≡ summed f s w) × (is_distinct elements.bit_list ≡ true → is_subset s (valid_bits elements) ≡ true → sum_by f (ascending s) ≤ sum_by f elements.bit_list)
unfolding valid_bits
sum_within elements f s w = (refl, refl, λ apart within. omega (arith, sum_subset f s (valid_bits elements) within, sum_listed f elements.bit_list apart))

-- ---- which they are

-- whether the numbers of a list count up from k by one
abbrev pub counts_up : ℕ → List ℕ → Bool
counts_up k [] = true
counts_up k (b ∷ bs) = (b == k) && counts_up (suc k) bs

is_in-up : (k q : ℕ) (bs : List ℕ) → counts_up k bs ≡ true → is_in q bs ≡ (nat_le k q && nat_lt q (k + length bs))
is_in-up k q [] up = grind (arith, nat_tests)
is_in-up k q (b ∷ bs) up = let rest = is_in-up (suc k) q bs in grind (arith, nat_tests)

below_up : (bs : List ℕ) → counts_up 0 bs ≡ true → from_list bs ≡ below (length bs)
below_up bs up = same_set _ _ (λ q. contains_from_list bs q ∙ is_in-up 0 q bs up ∙ grind (arith, nat_tests) ∙ sym (contains_below (length bs) q))

pub valid_below : {T : Type 0} (elements : Elements T) (n : ℕ) → (below n ≡ below n) × (valid_bits elements ≡ valid_bits elements) × (n ≡ length elements.bit_list → counts_up 0 elements.bit_list ≡ true → valid_bits elements ≡ below n)
unfolding valid_bits
valid_below elements n = (refl, refl, λ all up. below_up elements.bit_list up ∙ ap below (sym all))

pub valid_retained : {T : Type 0} (elements : Elements T) (p : ℕ → Bool) → (retain (valid_bits elements) p ≡ retain (valid_bits elements) p) × (counts_up 0 elements.bit_list ≡ true → valid_bits elements ≡ below (length elements.bit_list)) × (counts_up 0 elements.bit_list ≡ false → valid_bits elements ≡ from_list elements.bit_list)
unfolding valid_bits
valid_retained elements p = (refl, below_up elements.bit_list, λ _. refl)

-- ---- places in a list

-- a call that shows that the length of a list is in sight
pub sized : Bool → Bool
sized w = w

pub sized_at : {A : Type 0} (xs : List A) → (length xs ≡ length xs) × (sized true ≡ true)
unfolding sized
sized_at xs = (refl, refl)

is_in-within : (q : ℕ) (bs : List ℕ) → is_in q bs ≡ true → q < one_past_all bs
is_in-within q [] one = absurd (true≢false (sym one))
is_in-within q (b ∷ bs) one = let rest = is_in-within q bs in grind (arith, nat_tests)

pub valid_within : {T : Type 0} (elements : Elements T) (q : ℕ) (w : Bool) → (contains (valid_bits elements) q ≡ contains (valid_bits elements) q) × (sized w ≡ sized w) × (contains (valid_bits elements) q ≡ true → q < one_past_all elements.bit_list)
unfolding valid_bits
valid_within elements q w = (refl, refl, λ valid. is_in-within q elements.bit_list (sym (contains_from_list elements.bit_list q) ∙ valid))

pub ruleset of_valid_bits = (len_valid, len_within, summed_at, sum_within, valid_below, valid_retained, sized_at, valid_within)
