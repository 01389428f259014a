use Rattle.std.proofs.Common.{option_map}
use Rattle.enumset_array.specs.declared.traversal.End.TheVariants.{Front, Back}
use Rattle.enumset_sets.specs.Elements.{valid_bits}
use Rattle.enumset_mixed.specs.Mixed.{bit_with_validity}
use Rattle.enumset.proofs.AskedSteps.{mixed_first_by, mixed_last_by, stepped, some_mapped, pair}
use Rattle.enumset.proofs.laws.asks.mixed_step.Goals as goal

pub returns-in-Front : goal.returns-in-Front
returns-in-Front g c =
    let done = stepped (bit_with_validity g.T.EnumSetType.elements.bit) (option_map (pair (valid_bits g.T.EnumSetType.elements))) (some_mapped (pair (valid_bits g.T.EnumSetType.elements))) _ Front _ _ _ _ _ _ _ c.in-Front.is (mixed_first_by (bit_with_validity g.T.EnumSetType.elements.bit) (valid_bits g.T.EnumSetType.elements) _ _ _ c.next.ensures.steps.0) c.next.ensures.steps.1 in
    record { answer = done.0; items = done.1; asks = done.2 }

pub returns-in-Back : goal.returns-in-Back
returns-in-Back g c =
    let done = stepped (bit_with_validity g.T.EnumSetType.elements.bit) (option_map (pair (valid_bits g.T.EnumSetType.elements))) (some_mapped (pair (valid_bits g.T.EnumSetType.elements))) _ Back _ _ _ _ _ _ _ c.in-Back.is (mixed_last_by (bit_with_validity g.T.EnumSetType.elements.bit) (valid_bits g.T.EnumSetType.elements) _ _ _ c.next_back.ensures.steps.0) c.next_back.ensures.steps.1 in
    record { answer = done.0; items = done.1; asks = done.2 }
