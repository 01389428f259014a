use Rattle.std.proofs.Common.{◌∙◌}
use Rattle.enumset_repr.specs.BitSet.{symmetric_difference}
use Rattle.enumset_repr.specs.Laws.Members.{symmetric_difference_is_subset}
use Rattle.enumset_sets.proofs.enum_set.EnumSet+T.symmetric_difference.Goals as goal

pub of_repr-requires : goal.of_repr-requires
of_repr-requires g c = rw (g.met.T.Repr.EnumSetTypeRepr.operators.bitxor _ _ _ c.bitxor.ensures) (symmetric_difference_is_subset _ _ _ c.self.invariant.valid_only c.other.invariant.valid_only)

pub returns : goal.returns
returns g c = c.of_repr.ensures ∙ g.met.T.Repr.EnumSetTypeRepr.operators.bitxor _ _ _ c.bitxor.ensures ∙ (λ i. symmetric_difference (c.self.view_is i) (c.other.view_is i))
