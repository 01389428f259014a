use Rattle.std.proofs.Common.{arith, sym, ap, ◌∙◌}
use Rattle.std.proofs.lemmas.Grind.{common_steps}
use Rattle.serde_json.specs.Data.{object, no_members}
use Rattle.serde_json.specs.View.{members_view}
use Rattle.enumset.proofs.set_json.maps.to_map.Goals as goal
use Rattle.enumset.specs.JsonNames.{with_bits_true}
use Rattle.enumset.specs.Names.{names_of}

pub loop-element-init : goal.loop-element-init
loop-element-init g c = ap (λ es. with_bits_true (names_of g.T.EnumSetType.elements g.T.EnumSetNames.names) (members_view es) c.into_iter-element-iterator.result.items) c.new-members.ensures.empty

pub returns-clause-value : goal.returns-clause-value
returns-clause-value g c =
    c.from-2.ensures
    ∙ ap object
    (ap (with_bits_true (names_of g.T.EnumSetType.elements g.T.EnumSetNames.names) (members_view c.loop-element.members.entries)) (sym c.in-None.ensures.steps.0.0)
    ∙ c.loop-element.invariant
    ∙ ap (with_bits_true (names_of g.T.EnumSetType.elements g.T.EnumSetNames.names) no_members) (ap (λ i. i.items) c.into_iter-element-iterator.ensures.into_iter_gives ∙ c.iter-element-items.ensures.ascending))

pub loop-element-preserved : goal.loop-element-preserved
loop-element-preserved g c = grind (arith, common_steps)
