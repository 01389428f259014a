use Rattle.std.proofs.Common.{ap, sym, ◌∙◌}
use Rattle.enumset_repr.specs.Laws.Algebra.{is_subset_trans}
use Rattle.enumset_sets.proofs.laws.hash_is_injective.Goals as goal

-- both values are of the type, so that they are equal if they feed the same data
pub returns : goal.returns
returns g c = λ s t valid also same.
    let law = g.met.T.Repr.EnumSetTypeRepr.represents in
    let within = is_subset_trans s _ _ valid c.learn_valid_bits.ensures.within in
    let too = is_subset_trans t _ _ also c.learn_valid_bits.ensures.within in
    let equal = g.met.T.Repr.InjectiveHash.injective _ _ (law.is_value s within) (law.is_value t too) same in
    sym (law.represented s within) ∙ ap g.T.Repr.EnumSetTypeRepr.members equal ∙ law.represented t too
