-- The ends of a list, and of a set.
--     first, last      the first and the last item of a list, if there is one
--     without_first, without_last      a list without its first item;  without its last
--     least, greatest      the least and the greatest member of a set, if there is one
use Rattle.std.specs.Prelude.{ℕ, ◌-◌, List, Option, None, length, drop, take}
use Rattle.std.specs.List.{slice_get, last_or}
use Rattle.enumset_repr.specs.BitSet.{BitSet, ascending}

abbrev pub first : List ℕ → Option ℕ
first xs = slice_get xs 0

abbrev pub last : List ℕ → Option ℕ
last xs = last_or None xs

abbrev pub without_first : List ℕ → List ℕ
without_first xs = drop 1 xs

abbrev pub without_last : List ℕ → List ℕ
without_last xs = take (length xs - 1) xs

unfoldable pub least : BitSet → Option ℕ
least s = first (ascending s)

unfoldable pub greatest : BitSet → Option ℕ
greatest s = last (ascending s)
