-- Tables of sets.
--     row      the row of a bit, or the empty set if the table has none
use Rattle.std.specs.Prelude.{ℕ, List, slice_index_or}
use Rattle.enumset.specs.Sets.{BitSet, empty}

abbrev pub row : List BitSet → ℕ → BitSet
row table q = slice_index_or table q empty
