use Rattle.std.proofs.Common.{ap, sym, ◌∙◌}
use Rattle.enumset.proofs.laws.mixed_sets.mixed_hash_is_injective.Goals as goal

-- both values are of the type, so that they are equal if they feed the same data
pub returns : goal.returns
returns g c = λ s t within too same.
    let law = g.met.T.Repr.EnumSetTypeRepr.represents in
    let equal = g.met.T.Repr.InjectiveHash.injective _ _ (law.is_value s within) (law.is_value t too) same in
    sym (law.represented s within) ∙ ap g.T.Repr.EnumSetTypeRepr.members equal ∙ law.represented t too
