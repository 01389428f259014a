use Rattle.std.proofs.Common.{◌∙◌}
use Rattle.enumset_repr.specs.BitSet.{union}
use Rattle.enumset_mixed.proofs.mixed_enum_set.MixedEnumSet+T.union.Goals as goal

pub returns : goal.returns
returns g c = c.of_repr.ensures ∙ g.met.T.Repr.EnumSetTypeRepr.operators.bitor _ _ _ c.bitor.ensures ∙ (λ i. union (c.self.view_is i) (c.other.view_is i))
