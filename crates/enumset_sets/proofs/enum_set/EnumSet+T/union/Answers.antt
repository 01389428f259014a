use Rattle.std.proofs.Common.{◌∙◌}
use Rattle.enumset_repr.specs.BitSet.{union}
use Rattle.enumset_repr.specs.Laws.Members.{union_is_subset}
use Rattle.enumset_sets.proofs.enum_set.EnumSet+T.union.Goals as goal

pub of_repr-requires : goal.of_repr-requires
of_repr-requires g c = rw (g.met.T.Repr.EnumSetTypeRepr.operators.bitor _ _ _ c.bitor.ensures) (union_is_subset _ _ _ c.self.invariant.valid_only c.other.invariant.valid_only)

pub returns : goal.returns
returns g c = c.of_repr.ensures ∙ g.met.T.Repr.EnumSetTypeRepr.operators.bitor _ _ _ c.bitor.ensures ∙ (λ i. union (c.self.view_is i) (c.other.view_is i))
