-- Operations on two words that are operations on the sets of their bits.
--     IsOnBits      an operation on words does to their bits what an operation on sets does, bit by bit
use Rattle.std.specs.Prelude.{◌≡◌, ℕ, ◌<◌, ◌^◌, Bool}
use Rattle.enumset_repr.specs.BitSet.{BitSet, contains}
use Rattle.enumset_repr.specs.Number.{bits}

pub record IsOnBits (of_words : ℕ → ℕ → ℕ) (of_sets : BitSet → BitSet → BitSet) : Type 0 where
  -- the result for 0 and 0 is 0
  pub none : of_words 0 0 ≡ 0
  -- the result for two words of 64 bits is a word of 64 bits
  pub fits : (x y : ℕ) → x < 2 ^ 64 → y < 2 ^ 64 → of_words x y < 2 ^ 64
  -- the bits of the result are the operation on sets, applied to the bits of the words
  pub same : (x y : ℕ) → x < 2 ^ 64 → y < 2 ^ 64 → bits (of_words x y) ≡ of_sets (bits x) (bits y)
  -- each bit of the result depends only on that bit of the two words
  pub test : Bool → Bool → Bool
  pub member : (s t : BitSet) (q : ℕ) → contains (of_sets s t) q ≡ test (contains s q) (contains t q)
