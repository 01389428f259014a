use Rattle.std.proofs.Common.{◌∙◌}
use Rattle.enumset_repr.specs.BitSet.{intersection}
use Rattle.enumset_repr.specs.Laws.Members.{intersection_is_subset}
use Rattle.enumset_sets.proofs.enum_set.EnumSet+T.intersection.Goals as goal

pub of_repr-requires : goal.of_repr-requires
of_repr-requires g c = rw (g.met.T.Repr.EnumSetTypeRepr.operators.bitand _ _ _ c.bitand.ensures) (intersection_is_subset _ _ _ c.self.invariant.valid_only)

pub returns : goal.returns
returns g c = c.of_repr.ensures ∙ g.met.T.Repr.EnumSetTypeRepr.operators.bitand _ _ _ c.bitand.ensures ∙ (λ i. intersection (c.self.view_is i) (c.other.view_is i))
