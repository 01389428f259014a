-- Rules for a search: how many members sets have. They go with `decided` of `Members`, whose first lines say why a
-- rule has a dummy variable.
--     counted_at      the sets whose members are counted
--     len_of_..      how many members a union, an intersection, a difference and the like have
--     len_of_part, len_of_apart      a subset has at most as many members, and with as many it is the whole set;  of
--         subsets of one set, those that are disjoint have together at most as many
--     len_of_only      the first member of a set of one member is the only one
--     len_picked      how many of the numbers that are listed are members, one number after another
-- The ruleset `counts` has all of them but `len_of_apart`, which `counts_of_parts` has. Each `EnumSet` brings the fact
-- that it is a subset of the valid bits, so what a subset says of counts is used only where the members of both sets
-- are counted.
use Rattle.std.proofs.Common.{◌≡◌, ◌↔◌, ◌≤◌, ◌+◌, ◌*◌, ℕ, Bool, true, false, not, ◌&&◌, cond, arith, refl, sym, ap, ◌∙◌, ◌==◌, Option, Some, None, MatchOption}
use Rattle.std.proofs.lemmas.Bool.Decides.{nat_tests}
use Rattle.enumset_repr.specs.BitSet.{BitSet, contains, empty, insert, only, union, intersection, difference, symmetric_difference, is_subset, is_disjoint, is_empty, len}
use Rattle.enumset_repr.specs.Ends.{least}
use Rattle.enumset_repr.specs.Laws.Ascending.{len_empty, len_insert, len_remove}
use Rattle.enumset_repr.specs.Laws.Counting.{len_union_same, len_union, len_parts, len_zero_iff, len_only, len_subset, len_disjoint_union, subset_equality}
use Rattle.enumset_repr.specs.Laws.Algebra.{intersection_comm, intersection_empty}
use Rattle.enumset_repr.specs.Laws.Members.{contains_intersection, union_is_subset}
use Rattle.enumset_repr.specs.Laws.Sets.{len_symmetric_difference}
use Rattle.enumset_repr.specs.Rules.Members.{decided}
use Rattle.enumset_repr.specs.Rules.Ends.{least_in}

-- ---- sets whose members are counted

-- a call that shows a set whose members are counted
pub counted : BitSet → Bool → Bool
counted u w = w

pub counted_at : (s : BitSet) → (len s ≡ len s) × (counted s true ≡ true)
unfolding counted
counted_at s = (refl, refl)

-- `is_empty` as a test of a number, only where members are counted
pub empty_len : (s u : BitSet) (w : Bool) → (is_empty s ≡ is_empty s) × (counted u w ≡ counted u w) × (is_empty s ≡ (len s == 0))
unfolding is_empty
empty_len s u w = (refl, refl, refl)

disjoint_len : (s t : BitSet) → (is_disjoint s t ≡ true) ↔ (len (intersection s t) ≡ 0)
disjoint_len s t = (λ apart. let e : intersection s t ≡ empty = grind (arith, decided) in ap len e ∙ len_empty, λ none. let e = (len_zero_iff (intersection s t)).0 none in grind (arith, decided))

pub len_none : (s : BitSet) → (len s ≡ len s) × ((len s ≡ 0) ↔ (s ≡ empty))
len_none s = (refl, len_zero_iff s)

-- The rules for what operations return apply where the members of an argument, or of the other part, are counted too.
-- Without this each count would bring four more sets into sight, to be read at each number.
pub len_of_union : (s t : BitSet) (w : Bool) → (len (union s t) ≡ len (union s t)) × (counted s w ≡ counted s w) × (len (union s t) + len (intersection s t) ≡ len s + len t) × ((is_disjoint s t ≡ true) ↔ (len (intersection s t) ≡ 0))
len_of_union s t w = (refl, refl, len_union s t, disjoint_len s t)

pub len_of_union_right : (s t : BitSet) (w : Bool) → (len (union s t) ≡ len (union s t)) × (counted t w ≡ counted t w) × (len (union s t) + len (intersection s t) ≡ len s + len t) × ((is_disjoint s t ≡ true) ↔ (len (intersection s t) ≡ 0))
len_of_union_right s t w = (refl, refl, len_union s t, disjoint_len s t)

pub len_of_difference : (s t : BitSet) (w : Bool) → (len (difference s t) ≡ len (difference s t)) × (counted s w ≡ counted s w) × (len (difference s t) + len (intersection s t) ≡ len s)
len_of_difference s t w = (refl, refl, len_parts s t)

pub len_of_both_parts : (s t : BitSet) → (len (difference s t) ≡ len (difference s t)) × (len (intersection s t) ≡ len (intersection s t)) × (len (difference s t) + len (intersection s t) ≡ len s)
len_of_both_parts s t = (refl, refl, len_parts s t)

pub len_of_intersection : (s t : BitSet) (w : Bool) → (len (intersection s t) ≡ len (intersection s t)) × (counted s w ≡ counted s w) × (len (difference s t) + len (intersection s t) ≡ len s)
len_of_intersection s t w = (refl, refl, len_parts s t)

pub len_of_intersection_right : (s t : BitSet) (w : Bool) → (len (intersection s t) ≡ len (intersection s t)) × (counted t w ≡ counted t w) × (len (difference t s) + len (intersection s t) ≡ len t)
len_of_intersection_right s t w = (refl, refl, let e = ap len (intersection_comm s t) in omega (arith, len_parts t s, e))

pub len_of_intersection_turned : (s t : BitSet) → (len (intersection s t) ≡ len (intersection s t)) × (intersection t s ≡ intersection t s) × (intersection s t ≡ intersection t s)
len_of_intersection_turned s t = (refl, refl, intersection_comm s t)

pub len_of_symmetric_difference : (s t : BitSet) (w : Bool) → (len (symmetric_difference s t) ≡ len (symmetric_difference s t)) × (counted s w ≡ counted s w) × (len (symmetric_difference s t) + 2 * len (intersection s t) ≡ len s + len t)
len_of_symmetric_difference s t w = (refl, refl, len_symmetric_difference s t)

pub len_of_symmetric_difference_right : (s t : BitSet) (w : Bool) → (len (symmetric_difference s t) ≡ len (symmetric_difference s t)) × (counted t w ≡ counted t w) × (len (symmetric_difference s t) + 2 * len (intersection s t) ≡ len s + len t)
len_of_symmetric_difference_right s t w = (refl, refl, len_symmetric_difference s t)

pub len_union_covers : (s t : BitSet) (w : Bool) → (len (union s t) ≡ len (union s t)) × (counted s w ≡ counted s w) × (len (union s t) ≡ len s → is_subset t s ≡ true) × (is_subset t s ≡ true → len (union s t) ≡ len s)
len_union_covers s t w = (refl, refl, (λ e. let h = len_union_same s t in grind (arith, nat_tests)), (λ e. let h = len_union_same s t in grind (arith, nat_tests)))

-- ---- subsets and disjoint sets, where both are counted

-- a subset has at most as many members, and with as many it is the whole set
pub len_of_part : (s t : BitSet) (v w : Bool) → (is_subset s t ≡ is_subset s t) × (counted s v ≡ counted s v) × (counted t w ≡ counted t w) × (is_subset s t ≡ true → len s ≤ len t) × (is_subset s t ≡ true → len s ≡ len t → s ≡ t)
len_of_part s t v w = (refl, refl, refl, len_subset s t, subset_equality s t)

-- disjoint subsets of one set have together at most as many members
pub len_of_apart : (s t u : BitSet) (v w : Bool) → (is_disjoint s t ≡ is_disjoint s t) × (counted s v ≡ counted s v) × (counted t w ≡ counted t w) × (is_subset s u ≡ is_subset s u) × (is_subset t u ≡ is_subset t u) × (is_disjoint s t ≡ true → is_subset s u ≡ true → is_subset t u ≡ true → len s + len t ≤ len u)
len_of_apart s t u v w = (refl, refl, refl, refl, refl, λ apart one other. omega (arith, len_disjoint_union s t apart, len_subset (union s t) u (union_is_subset u s t one other)))

only_member : (s : BitSet) (b : ℕ) → contains s b ≡ true → len s ≡ 1 → s ≡ only b
only_member s b one single =
    let within : is_subset (only b) s ≡ true = grind (arith, decided) in
    sym (subset_equality (only b) s within (len_only b ∙ sym single))

-- the first member of a set of one member is the only one
pub len_of_only : (s t : BitSet) (w : Bool) → (least s ≡ least s) × (counted t w ≡ counted t w) × MatchOption (least s) (s ≡ empty) (λ m. len s ≡ 1 → s ≡ only m)
len_of_only s t w = (refl, refl, by (least s) (least_in s).1) where
  by : (o : Option ℕ) → MatchOption o (s ≡ empty) (λ m. contains s m ≡ true) → MatchOption o (s ≡ empty) (λ m. len s ≡ 1 → s ≡ only m)
  by None none = none
  by (Some m) one = only_member s m one

-- ---- the members that are in a set of listed numbers

picked : (s t : BitSet) (b : ℕ) (here before : Bool) → contains s b ≡ here → contains t b ≡ before → len (intersection s (insert t b)) ≡ cond (here && not before) (len (intersection s t) + 1) (len (intersection s t))
picked s t b true true one two = let same : intersection s (insert t b) ≡ intersection s t = grind (arith, decided) in ap len same
picked s t b true false one two =
    let more : intersection s (insert t b) ≡ insert (intersection s t) b = grind (arith, decided) in
    ap len more ∙ grind (arith, len_insert (intersection s t) b, contains_intersection s t b)
picked s t b false true one two = let same : intersection s (insert t b) ≡ intersection s t = grind (arith, decided) in ap len same
picked s t b false false one two = let same : intersection s (insert t b) ≡ intersection s t = grind (arith, decided) in ap len same

pub len_picked : (s t : BitSet) (b : ℕ) → len (intersection s (insert t b)) ≡ cond (contains s b && not (contains t b)) (len (intersection s t) + 1) (len (intersection s t))
len_picked s t b = picked s t b (contains s b) (contains t b) refl refl

pub len_picked_none : (s : BitSet) → len (intersection s empty) ≡ 0
len_picked_none s = ap len (intersection_empty s) ∙ len_empty

-- what it proves: how many members a union, a difference, a subset and the like have
pub ruleset counts = (len_of_union, len_of_union_right, len_of_difference, len_of_both_parts, len_of_intersection, len_of_intersection_right, len_of_intersection_turned, len_of_symmetric_difference, len_of_symmetric_difference_right, len_insert, len_remove, len_none, counted_at, empty_len, len_union_covers, len_of_part, len_of_only, len_picked, len_picked_none)

-- not at the root of a crate, since it compares each two disjoint sets with the valid bits
-- what it proves: that disjoint subsets of one set have together at most as many members as this set
pub ruleset counts_of_parts = (counted_at, len_of_apart)
