use Rattle.std.proofs.Common.{sym}
use Rattle.enumset_sets.specs.Laws.Folds.{union_none, extended_more}
use Rattle.enumset_mixed.proofs.folds.MixedEnumSetExtend.extend.Goals as goal

pub loop-element-init : goal.loop-element-init
loop-element-init g c = sym (union_none _)

pub loop-element-preserved : goal.loop-element-preserved
loop-element-preserved g c =
    extended_more g.T.EnumSetType.elements.bit _ _ _ c.loop-element.yielded c.in-Some.element c.loop-element.invariant c.insert.ensures.inserted
