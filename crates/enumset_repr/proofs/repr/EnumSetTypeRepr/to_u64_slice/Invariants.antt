use Rattle.std.proofs.Common.{◌≡◌, take}
use Rattle.enumset_repr.specs.Words.{words}
use Rattle.enumset_repr.proofs.repr.EnumSetTypeRepr.to_u64_slice.Given as goal

-- `out` has the words of the set up to place i, and then up to `place`
abbrev pub invariant-loop-i : goal.invariant-loop-i
invariant-loop-i g l = take l.i l.out ≡ words (g.Self.EnumSetTypeRepr.members l.self) l.i

abbrev pub invariant-loop-place : goal.invariant-loop-place
invariant-loop-place g l = take l.place l.out ≡ words (g.Self.EnumSetTypeRepr.members l.self) l.place
