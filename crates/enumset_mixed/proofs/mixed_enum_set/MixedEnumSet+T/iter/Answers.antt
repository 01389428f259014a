use Rattle.std.proofs.Common.{ap, ◌∙◌}
use Rattle.enumset_repr.specs.BitSet.{from_list}
use Rattle.enumset_repr.specs.Laws.Algebra.{from_list_ascending}
use Rattle.enumset_sets.specs.Calls.{left}
use Rattle.enumset_mixed.proofs.mixed_enum_set.MixedEnumSet+T.iter.Goals as goal

pub returns-clause-members : goal.returns-clause-members
unfolding left
returns-clause-members g c = rw (← c.self.view_is) (ap from_list c.over.ensures.items ∙ from_list_ascending _)
