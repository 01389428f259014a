use Rattle.std.proofs.Common.{◌∙◌, ap, sym}
use Rattle.enumset_repr.specs.BitSet.{insert}
use Rattle.enumset_sets.specs.Laws.Folds.{from_list_none, from_list_taken}
use Rattle.enumset_sets.proofs.folds.of_slice.Goals as goal

pub loop-value-init : goal.loop-value-init
loop-value-init g c = c.new-all.ensures ∙ sym from_list_none

pub loop-value-preserved : goal.loop-value-preserved
loop-value-preserved g c =
    let bit = g.T.EnumSetType.elements.bit in
    c.insert.ensures.inserted ∙ ap (λ s. insert s (bit c.value-item.result)) c.loop-value.invariant
    ∙ sym (from_list_taken bit c.args.values.now c.loop-value.value-index c.value-item.result c.loop-value-test.true c.value-item.is)
