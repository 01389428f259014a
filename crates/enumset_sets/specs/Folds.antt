-- Unions and intersections of many sets.
--     union_all      the union of all sets of a list
--     intersection_all      what a set has in common with every set of a list
use Rattle.std.specs.Prelude.{List, [], ◌∷◌, fold}
use Rattle.enumset_repr.specs.BitSet.{BitSet, empty, union, intersection}

unfoldable pub union_all : List BitSet → BitSet
union_all [] = empty
union_all (s ∷ ss) = union s (union_all ss)

abbrev pub intersection_all : BitSet → List BitSet → BitSet
intersection_all s ts = fold intersection s ts
