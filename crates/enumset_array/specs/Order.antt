-- The order of lists of words.
--     highest_first      how two lists of the same length compare: by the highest place where they differ
use Rattle.std.specs.Prelude.{ℕ, List, reverse}
use Rattle.std.specs.declared.cmp.Ordering.{Ordering}
use Rattle.std.specs.Ordering.{nat_cmp}
use Rattle.std.specs.Cmp.Lexicographic.{slice_cmp}

abbrev pub highest_first : List ℕ → List ℕ → Ordering
highest_first a b = slice_cmp nat_cmp (reverse a) (reverse b)
