-- The image of a set under a function of numbers.
--     image      the set of a function's values at the members of a set
use Rattle.std.specs.Prelude.{ℕ, map}
use Rattle.enumset_repr.specs.BitSet.{BitSet, ascending, from_list}

-- the values of f at the members of s
unfoldable pub image : (ℕ → ℕ) → BitSet → BitSet
image f s = from_list (map f (ascending s))
