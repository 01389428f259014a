use Rattle.std.proofs.Common.{◌∙◌, ap, sym}
use Rattle.enumset_repr.specs.BitSet.{union}
use Rattle.enumset_sets.specs.Laws.Folds.{union_all_none, union_all_mapped}
use Rattle.enumset.proofs.folds.into_mixed_sets.mixed_sum_set_refs.Goals as goal

pub loop-set-init : goal.loop-set-init
loop-set-init g c = c.new-all.ensures ∙ sym union_all_none

pub loop-set-preserved : goal.loop-set-preserved
loop-set-preserved g c =
    c.union-all.ensures ∙ ap (union c.in-Some.set.now) c.loop-set.invariant ∙ sym (union_all_mapped (λ s. s.now) c.loop-set.yielded c.in-Some.set)
