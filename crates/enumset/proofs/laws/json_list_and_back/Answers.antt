use Rattle.std.proofs.Common.{◌∙◌}
use Rattle.enumset_sets.specs.Elements.{valid_bits}
use Rattle.enumset.proofs.NameLaws.{IsNaming-passes, name_back}
use Rattle.enumset.proofs.NamesTaken.{own_known, list_read, accepted_whole}
use Rattle.enumset.proofs.laws.json_list_and_back.Goals as goal

pub returns : goal.returns
unfolding valid_bits
returns g c =
    let are = IsNaming-passes g.T.EnumSetType.elements.bit_list g.T.EnumSetNames.names g.met.T.EnumSetNames.named in
    let valid = c.number_and_back.ensures.valid in
    list_read _ _ _ _ (λ b. name_back _ _ b are) (own_known _ _ are) c.args.set.now c.args.unknown valid ∙ accepted_whole _ c.args.unknown c.args.set.now _ valid
