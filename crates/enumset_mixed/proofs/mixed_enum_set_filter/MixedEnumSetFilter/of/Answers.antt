use Rattle.enumset_sets.specs.Calls.{FilterRuns}
use Rattle.enumset_mixed.proofs.mixed_enum_set_filter.MixedEnumSetFilter.of.Goals as goal

pub returns-clause-runs : goal.returns-clause-runs
unfolding FilterRuns
returns-clause-runs g c = c.filter.ensures.runs
