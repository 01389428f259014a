use Rattle.std.proofs.Common.{Some, ap, sym, ◌∙◌}
use Rattle.enumset_repr.specs.Ends.{last, without_last}
use Rattle.enumset_repr.specs.Laws.Ends.{last_push, without_last_push}
use Rattle.enumset_sets.specs.Elements.{valid_bits}
use Rattle.enumset_mixed.specs.Laws.Items.{gave_last}
use Rattle.enumset_mixed.specs.Mixed.{bit_with_validity}
use Rattle.enumset_machine.proofs.run_set.mixed_enum_set.MixedEnumSetRunSet.next_back.Goals as goal

pub returns-in-Some-clause-given : goal.returns-in-Some-clause-given
returns-in-Some-clause-given g c =
    let valid = valid_bits g.T.EnumSetType.elements in
    let item = bit_with_validity g.T.EnumSetType.elements.bit c.in-Some.value in
    let left = c.next_back.new.self.items in
    ap Some c.bit_of.ensures ∙ sym (ap last (gave_last valid c.args.items.now.items left item c.in-Some.ensures.steps.0) ∙ last_push left item.0)

pub returns-in-Some-clause-rest : goal.returns-in-Some-clause-rest
returns-in-Some-clause-rest g c =
    let valid = valid_bits g.T.EnumSetType.elements in
    let item = bit_with_validity g.T.EnumSetType.elements.bit c.in-Some.value in
    let left = c.next_back.new.self.items in
    sym (ap without_last (gave_last valid c.args.items.now.items left item c.in-Some.ensures.steps.0) ∙ without_last_push left item.0)
