use Rattle.std.proofs.Common.{sym, ap, ◌∙◌}
use Rattle.enumset_repr.specs.BitSet.{contains}
use Rattle.enumset_sets.specs.Laws.Elements.{is_valid_bit}
use Rattle.enumset.proofs.NameLaws.{IsNaming-passes, name_back, name_alone}
use Rattle.enumset.proofs.laws.name_and_back.Goals as goal

pub returns : goal.returns
returns g c =
    let lawful = g.met.T.EnumSetType.lawful in
    let bs = g.T.EnumSetType.elements.bit_list in
    let names = g.T.EnumSetNames.names in
    let b = g.T.EnumSetType.elements.bit c.args.element in
    let are = IsNaming-passes bs names g.met.T.EnumSetNames.named in
    record {
      back = name_back bs names b are (sym (is_valid_bit g.T.EnumSetType.elements b) ∙ ap (λ s. contains s b) (sym lawful.valid) ∙ lawful.bit_is_valid c.args.element);
      only = λ is. (name_alone bs names b c.args.text.now lawful.distinct is).1;
    }
