use Rattle.std.proofs.Common.{ap, length, arith, sym, ◌∙◌}
use Rattle.std.proofs.iter.runs.Sources.{from_front}
use Rattle.enumset_repr.specs.BitSet.{from_list}
use Rattle.enumset_repr.specs.Laws.Algebra.{is_subset_trans, from_list_ascending}
use Rattle.enumset_repr.specs.Laws.Ascending.{len_ascending, len_below}
use Rattle.enumset_sets.specs.Calls.{left}
use Rattle.enumset_sets.proofs.enum_set.EnumSet+T.iter.Goals as goal

pub returns-clause-runs : goal.returns-clause-runs
returns-clause-runs g c = from_front _ g.T.EnumSetType.elements.bit (λ i. i.items) (λ s t step. ap length step.0.0) (λ s x t step. step.0)

pub returns-clause-fits : goal.returns-clause-fits
returns-clause-fits g c =
    let count = len_below _ _ (is_subset_trans _ _ _ c.self.invariant.valid_only c.learn_members.ensures.within) in
    omega (arith, ap length c.over.ensures.items, sym (len_ascending (g.T.Repr.EnumSetTypeRepr.members c.self.inside.repr)), count, c.learn_members.ensures.width)

pub returns-clause-members : goal.returns-clause-members
unfolding left
returns-clause-members g c = rw (← c.self.view_is) (ap from_list c.over.ensures.items ∙ from_list_ascending _)
