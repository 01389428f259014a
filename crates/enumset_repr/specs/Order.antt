-- The order of two sets, by their members alone.
--     deciding_number      the greatest number that is in exactly one of two sets, if there is one
--     by_holder      greater if a set has the deciding number, less if it does not, equal if there is none
--     compare      the set that has the greatest number that is in exactly one of the two is the greater;  if there is
--         no such number, the sets are equal
use Rattle.std.specs.Prelude.{ℕ, if◌then◌else◌, Option, Some, None}
use Rattle.std.specs.declared.cmp.Ordering.{Ordering}
use Rattle.std.specs.declared.cmp.Ordering.TheVariants.{Less, Equal, Greater}
use Rattle.enumset_repr.specs.BitSet.{BitSet, contains, symmetric_difference}
use Rattle.enumset_repr.specs.Ends.{greatest}

abbrev pub deciding_number : BitSet → BitSet → Option ℕ
deciding_number s t = greatest (symmetric_difference s t)

-- how a set compares with another, by the number that decides between them
abbrev pub by_holder : BitSet → Option ℕ → Ordering
by_holder s None = Equal
by_holder s (Some m) = if contains s m then Greater else Less

unfoldable pub compare : BitSet → BitSet → Ordering
compare s t = by_holder s (deciding_number s t)
