-- The operations on words that do to their bits what operations on sets do.
--     on_and, on_or, on_xor, on_and_not      `a & b`, `a | b`, `a ^ b` and `a & !b`
--     on_change      `^` of the first word and the result of an operation
use Rattle.std.proofs.Common.{ℕ, ap, ◌∙◌, not, ◌&&◌, ◌||◌, bit_and, bit_or, refl, w64, bit_xor}
use Rattle.std.proofs.Math.Pow.{ones_sub-lt}
use Rattle.std.proofs.lemmas.Nat.{or_lt, xor_lt}
use Rattle.std.specs.Int.{bit_not}
use Rattle.std.specs.Int.Bits.{and_lt}
use Rattle.enumset_repr.specs.BitSet.{BitSet, contains, intersection, union, difference, symmetric_difference}
use Rattle.enumset_repr.specs.Laws.Members.{contains_intersection, contains_union, contains_difference, contains_symmetric_difference}
use Rattle.enumset_repr.specs.Laws.Numbers.{bits_and, bits_or, bits_xor, bits_and_not}
use Rattle.enumset_repr.specs.Number.{bits}
use Rattle.enumset_array.specs.Operations.{IsOnBits}

pub on_and : IsOnBits bit_and intersection
on_and = record { none = refl; fits = and_lt 64; same = λ x y _ _. bits_and x y; test = λ p q. p && q; member = contains_intersection }

pub on_or : IsOnBits bit_or union
on_or = record { none = refl; fits = or_lt 64; same = λ x y _ _. bits_or x y; test = λ p q. p || q; member = contains_union }

pub on_xor : IsOnBits bit_xor symmetric_difference
on_xor = record { none = refl; fits = xor_lt 64; same = λ x y _ _. bits_xor x y; test = λ p q. (p && not q) || (q && not p); member = contains_symmetric_difference }

pub on_and_not : IsOnBits (λ x y. bit_and x (bit_not w64 y)) difference
on_and_not = record { none = refl; fits = λ x y p _. and_lt 64 x (bit_not w64 y) p (ones_sub-lt 64 y); same = bits_and_not 64; test = λ p q. p && not q; member = contains_difference }

pub on_change : (op : ℕ → ℕ → ℕ) (sets : BitSet → BitSet → BitSet) → IsOnBits op sets → IsOnBits (λ x y. bit_xor x (op x y)) (λ s t. symmetric_difference s (sets s t))
on_change op sets on = record {
  none = ap (bit_xor 0) on.none;
  fits = λ x y p q. xor_lt 64 x (op x y) p (on.fits x y p q);
  same = λ x y p q. bits_xor x (op x y) ∙ ap (symmetric_difference (bits x)) (on.same x y p q);
  test = λ p q. (p && not (on.test p q)) || (on.test p q && not p);
  member = λ s t q. contains_symmetric_difference s (sets s t) q ∙ ap (λ r. (contains s q && not r) || (r && not (contains s q))) (on.member s t q);
}
