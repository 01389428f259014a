-- Finite sets of bit numbers: what contracts see of an `EnumSet`, and what a value of a representation represents.
--     is_in      whether a number is in a list
--     BitSet, coded_set      the sets;  their code, which a model's `Value` needs and no clause cites
--     contains      whether a number is a member
--     ascending, len      the list of the members, each once, ascending;  the number of members
--     empty, insert, remove, retain, union, intersection, difference, symmetric_difference      as in Rust's `BTreeSet`
--     only      the set of one number
--     is_empty      whether a set has no members
--     is_subset, is_disjoint, is_same      whether each member of the first set is a member of the second;
--         whether none is;  whether the two have the same members
--     below, low      the numbers below a number;  the members below it
--     from_list, insert_each      the set of the numbers of a list;  a set with the numbers of a list inserted
-- `Laws/Members.antt` and `Laws/Ascending.antt` have the laws: what `contains` returns for each of these sets, that two
-- sets with the same members are equal, and what `len` and `ascending` return.
use Rattle.std.specs.Prelude.{ℕ, suc, zero, Bool, not, ◌&&◌, ◌==◌, nat_lt, List, [], ◌∷◌}
use Rattle.std.specs.List.{list_any, list_all}
use Rattle.std.specs.Ordering.{nat_cmp}
use Rattle.std.specs.FinMap as map
use Rattle.std.specs.Coded.{Coded, coded_ℕ}
use base.Stored.{coded_unit}

-- whether a number is in a list
abbrev pub is_in : ℕ → List ℕ → Bool
is_in q bs = list_any (λ b. q == b) bs

-- the sets: maps from their members to nothing
abbrev pub BitSet : Type 0
BitSet = map.FinMap nat_cmp (Unit {0})

abbrev pub coded_set : Coded BitSet
coded_set = map.code coded_ℕ coded_unit

unfoldable pub contains : BitSet → ℕ → Bool
contains s b = map.contains_key s b

-- the members, each once, ascending
unfoldable pub ascending : BitSet → List ℕ
ascending s = map.keys s

unfoldable pub len : BitSet → ℕ
len s = map.len s

unfoldable pub empty : BitSet
empty = map.empty

unfoldable pub insert : BitSet → ℕ → BitSet
insert s b = map.insert s b tt

abbrev pub only : ℕ → BitSet
only b = insert empty b

unfoldable pub remove : BitSet → ℕ → BitSet
remove s b = map.remove s b

-- the members that pass a test
unfoldable pub retain : BitSet → (ℕ → Bool) → BitSet
retain s p = map.retain_keys s p

-- the set of the numbers of a list
unfoldable pub from_list : List ℕ → BitSet
from_list [] = empty
from_list (b ∷ bs) = insert (from_list bs) b

-- s with each number of a list inserted
unfoldable pub insert_each : BitSet → List ℕ → BitSet
insert_each s [] = s
insert_each s (b ∷ bs) = insert (insert_each s bs) b

unfoldable pub union : BitSet → BitSet → BitSet
union s t = insert_each s (ascending t)

unfoldable pub intersection : BitSet → BitSet → BitSet
intersection s t = retain s (contains t)

unfoldable pub difference : BitSet → BitSet → BitSet
difference s t = retain s (λ b. not (contains t b))

unfoldable pub symmetric_difference : BitSet → BitSet → BitSet
symmetric_difference s t = union (difference s t) (difference t s)

-- whether each member of s is a member of t
unfoldable pub is_subset : BitSet → BitSet → Bool
is_subset s t = list_all (contains t) (ascending s)

-- whether s has no members
unfoldable pub is_empty : BitSet → Bool
is_empty s = len s == 0

-- whether no member of s is a member of t
unfoldable pub is_disjoint : BitSet → BitSet → Bool
is_disjoint s t = list_all (λ b. not (contains t b)) (ascending s)

-- whether s and t have the same members
unfoldable pub is_same : BitSet → BitSet → Bool
is_same s t = is_subset s t && is_subset t s

-- the numbers below n
unfoldable pub below : ℕ → BitSet
below zero = empty
below (suc n) = insert (below n) n

-- the members of s that are below n
unfoldable pub low : BitSet → ℕ → BitSet
low s n = retain s (λ b. nat_lt b n)
