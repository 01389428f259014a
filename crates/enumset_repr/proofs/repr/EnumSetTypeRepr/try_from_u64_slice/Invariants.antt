use Rattle.std.proofs.Common.{◌≡◌, ◌<◌, ℕ, slice_index}
use Rattle.enumset_repr.specs.Words.{word}
use Rattle.enumset_repr.proofs.repr.EnumSetTypeRepr.try_from_u64_slice.Given as goal

-- each word before place i was kept whole
abbrev pub invariant-loop-i : goal.invariant-loop-i
invariant-loop-i g l = (w : ℕ) → w < l.i → word (g.Self.EnumSetTypeRepr.members l.repr) w ≡ slice_index l.v w
