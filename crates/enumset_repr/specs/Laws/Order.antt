-- The order of two sets, and the greater and the lesser of them.
--     compare_ranks      the lesser set has the lesser number, and sets that compare as equal are equal
--     compare_total, compare_same, compare_itself      the order is total, and only equal sets compare as equal
--     compare_number, compare_bits      sets compare as their numbers do
--     compare_subset      a proper subset is less
--     compare_turned      for two subsets of one set, their complements in that set compare the other way round
--     same_compare, compare_partial      what `Ord` and `PartialOrd` require besides:  `is_same` is true exactly where
--         `compare` is `Equal`;  with `is_same`, `compare` is a partial order
--     max_superset, superset_max      the maximum of a set and a subset of it is the set
--     min_subset, subset_min      the minimum of a set and a subset of it is the subset
--     number_max, number_min      the number of the greater set, and of the lesser
-- The ruleset `orders` has the laws of `compare`.
use Rattle.std.proofs.Common.{◌≡◌, ◌≢◌, ◌<◌, ℕ, suc, ◌+◌, ◌*◌, ◌/◌, ◌%◌, ◌^◌, true, false, cond, not, Option, Some, None, refl, sym, ap, subst, ◌∙◌, arith, true≢false, suc-mul, ◌↔◌, Ordering, Less, Equal, Greater, is_eq, nat_cmp, pow_pos, shr-shr, ◌⊎◌, inl, inr, Bool, min, max}
use Rattle.std.proofs.lemmas.Bool.Decides.{nat_tests}
use Rattle.std.proofs.lemmas.Nat.{shr_split, mod_below}
use Rattle.std.proofs.lemmas.Nat.Bits.{bit_at-lt}
use Rattle.std.specs.Bool.{one_answer}
use Rattle.std.specs.Cmp.{IsTotalOrder, IsPartialOrder, strict, one_rank, ranks, below_irrefl, below_chain, partial_order_from_agreeing_total, Equal-is, tied_itself}
use Rattle.std.specs.Ordering.{MatchOrdering, ord_max, ord_min}
use Rattle.enumset_repr.specs.BitSet.{BitSet, contains, symmetric_difference, difference, is_subset, is_same}
use Rattle.enumset_repr.specs.Ends.{greatest}
use Rattle.enumset_repr.specs.Laws.Ascending.{empty_of_ascending}
use Rattle.enumset_repr.specs.Laws.Ends.{greatest_facts, ascending_no_greatest}
use Rattle.enumset_repr.specs.Laws.Members.{members, same_set, contains_symmetric_difference, contains_difference, is_subset_contains, is_same_iff}
use Rattle.enumset_repr.specs.Laws.Numbers.{contains_bits, contains_bits_shifted, bits_number, number_bits, same_number}
use Rattle.enumset_repr.specs.Number.{number, bits}
use Rattle.enumset_repr.specs.Order.{deciding_number, by_holder, compare}

-- ---- by the bits of a number

-- of two numbers that agree above bit m, the one without that bit is less than the one with it
lesser : (n k m : ℕ) → contains (bits n) m ≡ false → contains (bits k) m ≡ true → ((q : ℕ) → m < q → contains (bits n) q ≡ contains (bits k) q) → n < k
lesser n k m absent present alike =
    let upper : n / 2 ^ (m + 1) ≡ k / 2 ^ (m + 1) = same_number _ _ (λ b. contains_bits_shifted n (m + 1) b ∙ alike (m + 1 + b) (omega arith) ∙ sym (contains_bits_shifted k (m + 1) b)) in
    let halved : n / 2 ^ m / 2 ≡ k / 2 ^ m / 2 = shr-shr n m 1 ∙ upper ∙ sym (shr-shr k m 1) in
    let clear : n / 2 ^ m % 2 ≡ 0 = grind (arith, nat_tests, bit_at-lt n m, contains_bits n m) in
    let one : k / 2 ^ m % 2 ≡ 1 = grind (arith, nat_tests, contains_bits k m) in
    let next : k / 2 ^ m ≡ suc (n / 2 ^ m) = omega (arith, halved, clear, one) in
    let more : k / 2 ^ m * 2 ^ m ≡ n / 2 ^ m * 2 ^ m + 2 ^ m = ap (λ q. q * 2 ^ m) next ∙ omega (arith, suc-mul (n / 2 ^ m) (2 ^ m)) in
    omega (arith, more, shr_split n m, shr_split k m, mod_below n (2 ^ m) (pow_pos m))

-- ---- by the members of two sets

-- the number that decides between two sets is in exactly one of them
differs_at : (s t : BitSet) (m : ℕ) → deciding_number s t ≡ Some m → contains t m ≡ not (contains s m)
differs_at s t m some = let held = (greatest_facts _ m some).0 in grind (arith, nat_tests, contains_symmetric_difference s t m)

agrees_above : (s t : BitSet) (m : ℕ) → deciding_number s t ≡ Some m → (q : ℕ) → m < q → contains s q ≡ contains t q
agrees_above s t m some q over = let none = (greatest_facts _ m some).1 q over in grind (arith, nat_tests, contains_symmetric_difference s t q)

same_of_none : (s t : BitSet) → deciding_number s t ≡ None → s ≡ t
same_of_none s t none = same_set s t (λ q. let lost = ap (λ u. contains u q) (empty_of_ascending _ (ascending_no_greatest _ none)) in grind (arith, members, nat_tests))

-- of two sets that agree above m, the one without m has the lesser number
lesser_set : (s t : BitSet) (m : ℕ) → contains s m ≡ false → contains t m ≡ true → ((q : ℕ) → m < q → contains s q ≡ contains t q) → number s < number t
lesser_set s t m absent present alike =
    lesser (number s) (number t) m (of s m ∙ absent) (of t m ∙ present) (λ q over. of s q ∙ alike q over ∙ sym (of t q))
  where
    of : (u : BitSet) (q : ℕ) → contains (bits (number u)) q ≡ contains u q
    of u q = ap (λ v. contains v q) (bits_number u)

ranks_by : (s t : BitSet) (o : Option ℕ) → deciding_number s t ≡ o → MatchOrdering (by_holder s o) (number s < number t) (s ≡ t) (number t < number s)
ranks_by s t None none = same_of_none s t none
ranks_by s t (Some m) some = elim (contains s m) as (λ b. contains s m ≡ b → MatchOrdering (cond b Greater Less) (number s < number t) (s ≡ t) (number t < number s)) [
  | true ↦ λ held. lesser_set t s m (differs_at s t m some ∙ ap not held) held (λ q over. sym (agrees_above s t m some q over))
  | false ↦ λ missed. lesser_set s t m missed (differs_at s t m some ∙ ap not missed) (agrees_above s t m some)
] refl

pub compare_ranks : (s t : BitSet) → MatchOrdering (compare s t) (number s < number t) (s ≡ t) (number t < number s)
unfolding compare
compare_ranks s t = ranks_by s t (deciding_number s t) refl

-- ---- the laws

pub compare_total : IsTotalOrder compare
compare_total = strict (λ s t. number s < number t) (λ s. below_irrefl (number s)) (λ s t u. below_chain (number s) (number t) (number u)) compare compare_ranks

compare-number_by : (s t : BitSet) (o : Ordering) → MatchOrdering o (number s < number t) (s ≡ t) (number t < number s) → MatchOrdering o (number s < number t) (number s ≡ number t) (number t < number s)
compare-number_by s t Less less = less
compare-number_by s t Equal same = ap number same
compare-number_by s t Greater more = more

pub compare_number : (s t : BitSet) → compare s t ≡ nat_cmp (number s) (number t)
compare_number s t = one_rank (λ (x y : ℕ). x < y) below_irrefl below_chain (number s) (number t) _ _ (compare-number_by s t (compare s t) (compare_ranks s t)) (ranks (number s) (number t))

-- two numbers compare as their sets do
pub compare_bits : (n k : ℕ) → nat_cmp n k ≡ compare (bits n) (bits k)
compare_bits n k = (λ i. nat_cmp (sym (number_bits n) i) (sym (number_bits k) i)) ∙ sym (compare_number (bits n) (bits k))

pub compare_itself : (s : BitSet) → compare s s ≡ Equal
compare_itself s = tied_itself compare_total s

pub compare_same : (s t : BitSet) → compare s t ≡ Equal ↔ s ≡ t
compare_same s t = (
  λ tie. subst (λ o. MatchOrdering o (number s < number t) (s ≡ t) (number t < number s)) tie (compare_ranks s t),
  λ same. ap (compare s) (sym same) ∙ compare_itself s,
)

-- ---- subsets

-- a proper subset is less
subset_by : (s t : BitSet) (o : Option ℕ) → deciding_number s t ≡ o → is_subset s t ≡ true → s ≢ t → by_holder s o ≡ Less
subset_by s t None none sub apart = absurd (apart (same_of_none s t none))
subset_by s t (Some m) some sub apart = elim (contains s m) as (λ b. contains s m ≡ b → cond b Greater Less ≡ Less) [
  | true ↦ λ held. absurd (true≢false (sym (is_subset_contains s t sub m held) ∙ differs_at s t m some ∙ ap not held))
  | false ↦ λ missed. refl
] refl

pub compare_subset : (s t : BitSet) → is_subset s t ≡ true → s ≢ t → compare s t ≡ Less
unfolding compare
compare_subset s t = subset_by s t (deciding_number s t) refl

-- for two subsets of u: their complements in u differ exactly where the subsets differ
lacks : (u s t : BitSet) → is_subset s u ≡ true → is_subset t u ≡ true → symmetric_difference (difference u s) (difference u t) ≡ symmetric_difference t s
lacks u s t sub also = same_set _ _ (λ q. let each = is_subset_contains s u sub q in let more = is_subset_contains t u also q in grind (arith, members))

turned_by : (u s t : BitSet) (o : Option ℕ) → deciding_number t s ≡ o → is_subset s u ≡ true → is_subset t u ≡ true → by_holder (difference u s) o ≡ by_holder t o
turned_by u s t None none sub also = refl
turned_by u s t (Some m) some sub also =
    let each = is_subset_contains s u sub m in let more = is_subset_contains t u also m in let apart = differs_at t s m some in grind (arith, nat_tests, contains_difference u s m)

-- for two subsets of u, their complements in u compare the other way round
pub compare_turned : (u s t : BitSet) → is_subset s u ≡ true → is_subset t u ≡ true → compare (difference u s) (difference u t) ≡ compare t s
unfolding compare
compare_turned u s t sub also = ap (λ d. by_holder (difference u s) (greatest d)) (lacks u s t sub also) ∙ turned_by u s t (deciding_number t s) refl sub also

-- ---- what `Ord` requires

pub same_compare : (s t : BitSet) → is_same s t ≡ is_eq (compare s t)
same_compare s t = one_answer (is_same s t) (is_eq (compare s t)) (λ tie. (compare_same s t).1 ((is_same_iff s t).0 tie), λ e. (is_same_iff s t).1 ((compare_same s t).0 e)) (Equal-is (compare s t))

pub compare_partial : IsPartialOrder is_same (λ s t. Some (compare s t))
compare_partial = partial_order_from_agreeing_total compare compare_total (λ s t. refl) same_compare

pub ruleset orders = (compare_total, compare_same, compare_subset, compare_turned, compare_number)

-- ---- the greater and the lesser of two sets

module _ (s t : BitSet) (within : is_subset s t ≡ true) where
  less_or_same : (number s < number t) ⊎ (s ≡ t)
  less_or_same = by (is_same s t) refl where
    by : (b : Bool) → is_same s t ≡ b → (number s < number t) ⊎ (s ≡ t)
    by true same = inr ((is_same_iff s t).0 same)
    by false other = inl (subst (λ o. MatchOrdering o (number s < number t) (s ≡ t) (number t < number s)) (compare_subset s t within (λ e. true≢false (sym ((is_same_iff s t).1 e) ∙ other))) (compare_ranks s t))

  pub max_superset : ord_max compare s t ≡ t
  max_superset = let either = less_or_same in let order = compare_number t s in grind (arith, nat_tests)

  pub min_subset : ord_min compare s t ≡ s
  min_subset = let either = less_or_same in let order = compare_number t s in grind (arith, nat_tests)

  pub superset_max : ord_max compare t s ≡ t
  superset_max = let either = less_or_same in let order = compare_number s t in grind (arith, nat_tests)

  pub subset_min : ord_min compare t s ≡ s
  subset_min = let either = less_or_same in let order = compare_number s t in grind (arith, nat_tests)

pub number_max : (s t : BitSet) → number (ord_max compare s t) ≡ max (number s) (number t)
number_max s t = let order = compare_number t s in let back = compare_number s t in grind (arith, nat_tests)

pub number_min : (s t : BitSet) → number (ord_min compare s t) ≡ min (number s) (number t)
number_min s t = let order = compare_number t s in let back = compare_number s t in grind (arith, nat_tests)
