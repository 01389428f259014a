use Rattle.std.proofs.Common.{◌≡◌, ◌*◌}
use Rattle.enumset_repr.specs.BitSet.{low}
use Rattle.enumset_repr.specs.Words.{bits_of}
use Rattle.enumset_repr.proofs.repr.EnumSetTypeRepr.from_u64_slice.Given as goal

-- each word before place i was put in
abbrev pub invariant-loop-i : goal.invariant-loop-i
invariant-loop-i g l = g.Self.EnumSetTypeRepr.members l.repr ≡ low (low (bits_of l.v) (64 * l.i)) g.Self.EnumSetTypeRepr.WIDTH
