use Rattle.enumset_repr.specs.Laws.Algebra.{intersection_difference}
use Rattle.enumset_repr.proofs.repr.EnumSetTypeRepr.and_not.Goals as goal

pub returns : goal.returns
returns g c =
    let laws = g.met.Self.EnumSetTypeRepr in
    rw (laws.operators.bitand _ _ _ c.bitand.ensures, laws.operators.turned _ _ c.learn_is_value-2.ensures c.not.ensures)
    (intersection_difference _ _ _ (laws.represents.within _ c.learn_is_value.ensures))
