use Rattle.std.proofs.Common.{◌≡◌, true, subst}
use Rattle.enumset_repr.specs.BitSet.{is_subset, below}
use Rattle.enumset.proofs.JsonLaws.{mixed_number_and_back}
use Rattle.enumset.proofs.laws.json_mixed_number_and_back.Goals as goal

pub returns : goal.returns
returns g c =
    mixed_number_and_back _ _
    (subst (λ s. is_subset s (below g.T.Repr.EnumSetTypeRepr.WIDTH) ≡ true) c.as_repr.ensures (g.met.T.Repr.EnumSetTypeRepr.represents.within _ c.learn_is_value.ensures))
