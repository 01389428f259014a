-- The laws of a representation whose contracts state the operators by sets and the iterators by lists.
--     by_sets      operators whose results are stated as sets
--     by_list      an iterator whose steps are stated by the list of the items left
--     by_bits      the iterator over the bits of an integer
--     no_asks      an iterator that counts no asks
use Rattle.std.proofs.Common.{◌≡◌, refl, ap, List, ℕ, arith, Option}
use Rattle.std.specs.Iterator.{YieldsFirst, YieldsLast, item_count}
use Rattle.enumset_repr.specs.Asks.{IsCounted}
use Rattle.enumset_repr.specs.BitSet.{BitSet, ascending, union, intersection, symmetric_difference, difference, below}
use Rattle.enumset_repr.specs.Number.{bits, bits_listed}
use Rattle.enumset_repr.specs.Representations.{AreSetOperators, IsListed}

pub by_sets : {S : Type 0} {members : S → BitSet} {IsValue : S → Type 0} {width : ℕ}
    → AreSetOperators members IsValue width (λ _ _. Unit {0}) (λ _ _. Unit {0}) (λ _ _. Unit {0}) (λ _. Unit {0})
    (λ a b r. members r ≡ intersection (members a) (members b))
    (λ a b r. members r ≡ union (members a) (members b))
    (λ a b r. members r ≡ symmetric_difference (members a) (members b))
    (λ a r. members r ≡ difference (below width) (members a))
by_sets = record {
  can_bitand = λ _ _. tt;
  can_bitor = λ _ _. tt;
  can_bitxor = λ _ _. tt;
  can_turn = λ _. tt;
  bitand = λ _ _ _ is. is;
  bitor = λ _ _ _ is. is;
  bitxor = λ _ _ _ is. is;
  turned = λ _ _ _ is. is;
}

pub by_list : {I : Type 0} {rest : I → List ℕ}
    → IsListed rest (λ _. Unit {0}) (λ _. Unit {0}) (YieldsFirst rest) (YieldsLast rest) (λ _. Unit {0}) (λ i j. j ≡ i) (item_count rest)
by_list {I} {rest} = record {
  can_step = λ _. tt;
  can_step_back = λ _. tt;
  step = λ _ _ _ step. step;
  step_back = λ _ _ _ step. step;
  can_clone = λ _. tt;
  clone = λ i j copy. ap rest copy;
  left = λ _. refl;
}

-- PrimitiveIter, whose only field is the integer
pub by_bits : {I : Type 0} (integer : I → ℕ)
    → IsListed (λ i. bits_listed (integer i)) (λ _. Unit {0}) (λ _. Unit {0}) (YieldsFirst (λ i. ascending (bits (integer i)))) (YieldsLast (λ i. ascending (bits (integer i)))) (λ _. Unit {0}) (λ i j. j ≡ i) (item_count (λ i. ascending (bits (integer i))))
unfolding bits_listed
by_bits integer = by_list

pub no_asks : {I : Type 0} {gives gives_back : I → Option ℕ → I → Type 0} {is_clone : I → I → Type 0} → IsCounted (λ _. 0) (λ _. 0) gives gives_back is_clone
no_asks = record { step = λ i r j gives. (omega arith, omega arith); step_back = λ i r j gives. (omega arith, omega arith); clone = λ i j copy. (refl, refl) }
