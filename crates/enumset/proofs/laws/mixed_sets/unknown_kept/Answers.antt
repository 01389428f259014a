use Rattle.enumset_repr.specs.Laws.Sets.{difference_insert, difference_remove, difference_insert_all, difference_remove_all, complement_outside}
use Rattle.enumset_sets.specs.Elements.{valid_bits}
use Rattle.enumset.proofs.laws.mixed_sets.unknown_kept.Goals as goal

pub returns : goal.returns
returns g c = record {
  inserted = λ s element. difference_insert s _ _ (c.bit_and_back.ensures.valid element);
  removed = λ s element. difference_remove s _ _ (c.bit_and_back.ensures.valid element);
  all_inserted = λ s elements. difference_insert_all s (valid_bits g.T.EnumSetType.elements) elements;
  all_removed = λ s elements. difference_remove_all s (valid_bits g.T.EnumSetType.elements) elements;
  complement = complement_outside (valid_bits g.T.EnumSetType.elements);
}
