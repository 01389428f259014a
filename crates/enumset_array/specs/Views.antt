-- What contracts see of a row of words.
--     RowView      a row: its words, and the number of asks so far
--     AreWords      the words of a row are fewer than the limit, and each is a number of 64 bits
use Rattle.std.specs.Prelude.{ℕ, ◌<◌, ◌^◌, List, length, slice_index}
use Rattle.enumset_array.specs.declared.array_repr.TheConstants.{WORD_LIMIT}

pub record RowView : Type 0 where
  pub words : List ℕ
  pub asks : ℕ

pub record AreWords (words : List ℕ) : Type 0 where
  pub limit : length words < WORD_LIMIT
  pub fit : (i : ℕ) → slice_index words i < 2 ^ 64
