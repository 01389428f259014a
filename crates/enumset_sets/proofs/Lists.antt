-- Numbers in a list.
--     not_none      a number in a list is not `IsNoneOf` the list
--     is_in-later      a number in two lists joined that is not in the first is in the second
--     below_range      a number among the n numbers from a on is below a + n
use Rattle.std.proofs.Common.{◌≡◌, ◌<◌, ℕ, suc, zero, ◌+◌, true, List, [], ◌∷◌, ◌++◌, sym, arith, true≢false}
use Rattle.std.proofs.lemmas.Bool.Decides.{nat_tests}
use Rattle.std.specs.List.{range_with_len}
use Rattle.enumset_repr.specs.BitSet.{is_in}
use Rattle.enumset_sets.specs.Variants.{IsNoneOf}

pub not_none : (q : ℕ) (bs : List ℕ) → is_in q bs ≡ true → IsNoneOf q bs → ⊥
not_none q [] one none = true≢false (sym one)
not_none q (b ∷ bs) one none = let later = not_none q bs in grind (arith, nat_tests, none.0, none.1)

pub is_in-later : (q : ℕ) (bs cs : List ℕ) → is_in q (bs ++ cs) ≡ true → IsNoneOf q bs → is_in q cs ≡ true
is_in-later q [] cs one none = one
is_in-later q (b ∷ bs) cs one none = let later = is_in-later q bs cs in grind (arith, nat_tests, none.0, none.1)

pub below_range : (a n q : ℕ) → is_in q (range_with_len a n) ≡ true → q < a + n
below_range a zero q one = absurd (true≢false (sym one))
below_range a (suc n) q one = let later = below_range (a + 1) n q in grind (arith, nat_tests)
