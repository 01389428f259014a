use Rattle.enumset_sets.specs.Elements.{valid_bits}
use Rattle.enumset.proofs.NameLaws.{IsNaming-passes, name_back}
use Rattle.enumset.proofs.NamesTaken.{other_known, list_read, map_read}
use Rattle.enumset.proofs.laws.readers.older_reader_of_names.Goals as goal

pub returns : goal.returns
unfolding valid_bits
returns g c =
    let s = c.args.set.now in
    let old = IsNaming-passes g.Old.EnumSetType.elements.bit_list g.Old.EnumSetNames.names g.met.Old.EnumSetNames.named in
    let are = IsNaming-passes g.New.EnumSetType.elements.bit_list g.New.EnumSetNames.names g.met.New.EnumSetNames.named in
    let known = other_known _ _ _ _ old are c.requires in record {
      list = list_read _ _ _ _ (λ b. name_back _ _ b are) known s c.args.unknown c.number_and_back.ensures.valid;
      map = map_read _ _ _ _ (λ b. name_back _ _ b are) known s c.args.unknown c.number_and_back.ensures.valid;
    }
