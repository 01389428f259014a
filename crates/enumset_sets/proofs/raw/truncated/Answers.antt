use Rattle.std.proofs.Common.{◌∙◌, ap}
use Rattle.enumset_repr.specs.BitSet.{intersection}
use Rattle.enumset_repr.specs.Laws.Algebra.{intersection_right}
use Rattle.enumset_sets.proofs.raw.truncated.Goals as goal

pub of_repr-requires : goal.of_repr-requires
of_repr-requires g c = rw (g.met.T.Repr.EnumSetTypeRepr.operators.bitand _ _ _ c.bitand.ensures, c.valid_repr.ensures.members) (intersection_right _ _)

pub returns : goal.returns
returns g c = record {
  members = c.of_repr.ensures ∙ g.met.T.Repr.EnumSetTypeRepr.operators.bitand _ _ _ c.bitand.ensures ∙ ap (intersection _) c.valid_repr.ensures.members;
  within = c.valid_repr.ensures.within;
}
