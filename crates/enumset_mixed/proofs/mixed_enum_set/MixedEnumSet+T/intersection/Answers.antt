use Rattle.std.proofs.Common.{◌∙◌}
use Rattle.enumset_repr.specs.BitSet.{intersection}
use Rattle.enumset_mixed.proofs.mixed_enum_set.MixedEnumSet+T.intersection.Goals as goal

pub returns : goal.returns
returns g c = c.of_repr.ensures ∙ g.met.T.Repr.EnumSetTypeRepr.operators.bitand _ _ _ c.bitand.ensures ∙ (λ i. intersection (c.self.view_is i) (c.other.view_is i))
