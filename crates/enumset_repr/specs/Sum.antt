-- The sum over a set.
--     sum_over      the sum of a function's values at the members of a set
use Rattle.std.specs.Prelude.{ℕ, sum_by}
use Rattle.enumset_repr.specs.BitSet.{BitSet, ascending}

-- the sum of f over the members of s
abbrev pub sum_over : (ℕ → ℕ) → BitSet → ℕ
sum_over f s = sum_by f (ascending s)
