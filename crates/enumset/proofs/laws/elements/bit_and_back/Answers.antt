use Rattle.std.proofs.Common.{sym, ap, ◌∙◌}
use Rattle.enumset_repr.specs.BitSet.{contains}
use Rattle.enumset_repr.specs.Laws.Members.{member_below}
use Rattle.enumset.proofs.laws.elements.bit_and_back.Goals as goal

pub returns : goal.returns
returns g c =
    let lawful = g.met.T.EnumSetType.lawful in record {
      valid = λ value. ap (λ s. contains s (g.T.EnumSetType.elements.bit value)) (sym lawful.valid) ∙ lawful.bit_is_valid value;
      within = λ value. member_below _ _ _ c.valid_bits_listed.ensures.within (ap (λ s. contains s (g.T.EnumSetType.elements.bit value)) (sym lawful.valid) ∙ lawful.bit_is_valid value);
      back = lawful.bit_tells;
      equal = lawful.eq_tells;
    }
