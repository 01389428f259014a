use Rattle.std.proofs.Common.{◌∙◌}
use Rattle.enumset_repr.specs.BitSet.{symmetric_difference}
use Rattle.enumset_mixed.proofs.mixed_enum_set.MixedEnumSet+T.symmetric_difference.Goals as goal

pub returns : goal.returns
returns g c = c.of_repr.ensures ∙ g.met.T.Repr.EnumSetTypeRepr.operators.bitxor _ _ _ c.bitxor.ensures ∙ (λ i. symmetric_difference (c.self.view_is i) (c.other.view_is i))
