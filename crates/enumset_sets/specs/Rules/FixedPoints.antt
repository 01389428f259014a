-- Rules for a search: a union of rows as a fold, so that a loop or a `fold` over a set's elements proves it.
--     union_over_rows      the union of the rows of a set's members as the union of all sets of a list
--     gathered_row      what follows in a place as a union of two sets
-- The ruleset `rows` has both.
use Rattle.std.proofs.Common.{◌≡◌, ℕ, List, map, refl}
use Rattle.enumset_repr.specs.BitSet.{BitSet, ascending, union}
use Rattle.enumset_sets.specs.FixedPoints.{union_over}
use Rattle.enumset_sets.specs.FixedPointsOfMany.{gathered, set_at}
use Rattle.enumset_sets.specs.Folds.{union_all}

pub union_over_rows : (f : ℕ → BitSet) (s : BitSet) → union_over f s ≡ union_all (map f (ascending s))
unfolding union_over
union_over_rows f s = refl

pub gathered_row : (own sources : ℕ → BitSet) (sets : List BitSet) (place : ℕ) → gathered own sources sets place ≡ union (own place) (union_over (set_at sets) (sources place))
unfolding gathered
gathered_row own sources sets place = refl

-- what it proves: unions of rows, which a loop or a `fold` over a set's elements collects
pub ruleset rows = (union_over_rows, gathered_row)
