use Rattle.std.proofs.Common.{◌∙◌, ap, sym}
use Rattle.enumset_repr.specs.BitSet.{union}
use Rattle.enumset_sets.specs.Laws.Folds.{union_all_none, union_all_more}
use Rattle.enumset_sets.proofs.folds.EnumSetSum.sum.Goals as goal

pub loop-set-init : goal.loop-set-init
loop-set-init g c = c.new-all.ensures ∙ sym union_all_none

pub loop-set-preserved : goal.loop-set-preserved
loop-set-preserved g c =
    c.insert_all.ensures ∙ ap (λ s. union s c.in-Some.set) c.loop-set.invariant ∙ sym (union_all_more c.loop-set.yielded c.in-Some.set)
