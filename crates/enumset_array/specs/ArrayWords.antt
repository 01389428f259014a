-- The words of an `ArrayRepr`. The words in use are fewer than a limit.
--     in_use      how many of n words are in use: n modulo the limit, which is 67,108,864
--     words_in_use      the words in use
--     is_zero_past, is_empty_past      whether each word past those in use is 0;  the same, where all n may be in use
--     array_of      the words of a set
--     set_of      the set that the words in use represent
--     IsArrayRepr      the list has n words of 64 bits, and those past the words in use are 0
use Rattle.std.specs.Prelude.{◌≡◌, ℕ, ◌<◌, ◌^◌, ◌%◌, ◌==◌, nat_lt, ◌||◌, Bool, IsTrue, List, length, take, drop, slice_index}
use Rattle.std.specs.List.{list_all}
use Rattle.enumset_repr.specs.BitSet.{BitSet}
use Rattle.enumset_array.specs.declared.array_repr.TheConstants.{WORD_LIMIT}
use Rattle.enumset_repr.specs.Words.{words, bits_of}

abbrev pub in_use : ℕ → ℕ
in_use n = n % WORD_LIMIT

abbrev pub words_in_use : ℕ → List ℕ → List ℕ
words_in_use n ws = take (in_use n) ws

unfoldable pub is_zero_past : ℕ → List ℕ → Bool
is_zero_past n ws = list_all (λ w. w == 0) (drop (in_use n) ws)

-- below the limit there are no others, so nothing is left to prove of a value
abbrev pub is_empty_past : ℕ → List ℕ → Bool
is_empty_past n ws = nat_lt n WORD_LIMIT || is_zero_past n ws

-- What a function knows of each set that it is given shows the set's words. They have a name of their own, so that a
-- search does not take their list apart.
unfoldable pub array_of : ℕ → BitSet → List ℕ
array_of n s = words s n

abbrev pub set_of : ℕ → List ℕ → BitSet
set_of n ws = bits_of (words_in_use n ws)

pub record IsArrayRepr (n : ℕ) (ws : List ℕ) : Type 0 where
  pub long : length ws ≡ n
  pub fit : (i : ℕ) → slice_index ws i < 2 ^ 64
  pub past : IsTrue (is_empty_past n ws)
