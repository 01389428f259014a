-- The items of a list of words.
--     items_of      the members of the set that the words represent, each once, ascending
use Rattle.std.specs.Prelude.{ℕ, List}
use Rattle.enumset_repr.specs.BitSet.{ascending}
use Rattle.enumset_repr.specs.Words.{bits_of}

abbrev pub items_of : List ℕ → List ℕ
items_of ws = ascending (bits_of ws)
