-- Whether an operation on two sets changes the first.
use Rattle.std.proofs.Common.{◌≡◌, arith}
use Rattle.enumset_repr.specs.BitSet.{BitSet, union, intersection, difference, is_subset, is_disjoint, is_same}
use Rattle.enumset_repr.specs.Rules.Members.{decided}

pub same_union : (s t : BitSet) → is_same s (union s t) ≡ is_subset t s
same_union s t = grind (arith, decided)

pub same_intersection : (s t : BitSet) → is_same s (intersection s t) ≡ is_subset s t
same_intersection s t = grind (arith, decided)

pub same_difference : (s t : BitSet) → is_same s (difference s t) ≡ is_disjoint s t
same_difference s t = grind (arith, decided)
