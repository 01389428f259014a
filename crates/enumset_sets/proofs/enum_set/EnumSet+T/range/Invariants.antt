use Rattle.std.proofs.Common.{◌≡◌, ◌*◌, ◌&&◌, nat_le, nat_lt}
use Rattle.enumset_repr.specs.BitSet.{retain}
use Rattle.enumset_sets.proofs.enum_set.EnumSet+T.range.Given as goal

-- `range` has the valid bits from `first` to `last` that are in the words so far
abbrev pub invariant-loop-i : goal.invariant-loop-i
invariant-loop-i g l = g.T.Repr.EnumSetTypeRepr.members l.range ≡ retain (g.T.Repr.EnumSetTypeRepr.members l.all) (λ q. (nat_le l.first q && nat_le q l.last) && nat_lt q (64 * l.i))
