use Rattle.std.proofs.Common.{arith, ◌++◌, map, append-nil, sym, ap, ◌∙◌}
use Rattle.std.proofs.lemmas.Grind.{common_steps}
use Rattle.serde_json.specs.Data.{array, string}
use Rattle.serde_json.specs.View.{view, items_of}
use Rattle.enumset.proofs.set_json.lists.to_list.Goals as goal
use Rattle.enumset.specs.Names.{names_of, name_of}

pub loop-element-init : goal.loop-element-init
loop-element-init g c = ap (λ vs. map view vs ++ map (λ b. string (name_of (names_of g.T.EnumSetType.elements g.T.EnumSetNames.names) b)) c.into_iter-element-iterator.result.items) c.in_ok-list.ensures.items

pub returns-clause-value : goal.returns-clause-value
returns-clause-value g c =
    c.from.ensures
    ∙ ap (λ ds. array (items_of ds))
    (sym (append-nil (map view c.loop-element.list.items))
    ∙ ap (λ bs. map view c.loop-element.list.items ++ map (λ b. string (name_of (names_of g.T.EnumSetType.elements g.T.EnumSetNames.names) b)) bs) (sym c.in-None.ensures.steps.0.0)
    ∙ c.loop-element.invariant
    ∙ ap (map (λ b. string (name_of (names_of g.T.EnumSetType.elements g.T.EnumSetNames.names) b))) (ap (λ i. i.items) c.into_iter-element-iterator.ensures.into_iter_gives ∙ c.iter-element-items.ensures.ascending))

pub loop-element-preserved : goal.loop-element-preserved
loop-element-preserved g c = grind (arith, common_steps)
