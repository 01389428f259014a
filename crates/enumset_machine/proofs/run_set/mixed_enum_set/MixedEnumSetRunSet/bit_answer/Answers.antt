use Rattle.std.proofs.Common.{◌≡◌, false, refl, sym, ◌∙◌}
use Rattle.enumset_repr.specs.BitSet.{contains}
use Rattle.enumset_sets.specs.Elements.{valid_bits}
use Rattle.enumset_machine.proofs.run_set.mixed_enum_set.MixedEnumSetRunSet.bit_answer.Goals as goal

pub returns-else-is_bit_valid : goal.returns-else-is_bit_valid
returns-else-is_bit_valid g c =
    let unknown : contains (valid_bits g.T.EnumSetType.elements) c.args.bit ≡ false = sym c.is_bit_valid.ensures.valid ∙ c.if-is_bit_valid.false in
    rw unknown refl
