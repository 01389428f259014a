use Rattle.std.proofs.Common.{sym, ap, ◌∙◌}
use Rattle.enumset_repr.specs.BitSet.{len}
use Rattle.enumset_sets.specs.Elements.{IsWidthOf, IsCountOf, one_past_greatest}
use Rattle.enumset_sets.specs.Laws.Elements.{is_valid_bit}
use Rattle.enumset.proofs.laws.elements.valid_bits_listed.Goals as goal

pub returns : goal.returns
unfolding IsWidthOf IsCountOf
returns g c =
    let lawful = g.met.T.EnumSetType.lawful in
    record {
      listed = is_valid_bit g.T.EnumSetType.elements;
      each_once = lawful.distinct;
      all_bits = lawful.valid;
      count = ap len (sym lawful.valid) ∙ sym lawful.count_is;
      width = ap one_past_greatest (sym lawful.valid) ∙ sym lawful.width_is;
      within = c.valid_repr-all.ensures.within;
    }
