use Rattle.std.proofs.Common.{◌∙◌, ap, sym}
use Rattle.enumset_repr.specs.BitSet.{insert}
use Rattle.enumset_sets.specs.Laws.Folds.{from_list_none, from_list_more}
use Rattle.enumset.proofs.folds.into_sets.sum_element_refs.Goals as goal

pub loop-element-init : goal.loop-element-init
loop-element-init g c = c.new-all.ensures ∙ sym from_list_none

pub loop-element-preserved : goal.loop-element-preserved
loop-element-preserved g c =
    c.insert.ensures.inserted ∙ ap (λ s. insert s (g.T.EnumSetType.elements.bit c.in-Some.element.now)) c.loop-element.invariant
    ∙ sym (from_list_more (λ t. g.T.EnumSetType.elements.bit t.now) c.loop-element.yielded c.in-Some.element)
