use Rattle.enumset_sets.proofs.Retain.{left, selected, kept_by_test, kept_unchanged}
use Rattle.enumset_sets.proofs.enum_set.EnumSet+T.retain.Goals as goal

pub returns-clause-left : goal.returns-clause-left
returns-clause-left g c = left _ _ _ _ _ (_, c.retain_by.ensures)

pub returns-clause-kept : goal.returns-clause-kept
returns-clause-kept g c p test = kept_by_test _ _ _ p _ _ (_, c.retain_by.ensures) test

pub returns-clause-kept_unchanged : goal.returns-clause-kept_unchanged
returns-clause-kept_unchanged g c p test = kept_unchanged _ _ _ p _ _ (_, c.retain_by.ensures) test

pub returns-clause-selected : goal.returns-clause-selected
returns-clause-selected g c keeps = selected _ _ _ keeps _ _ (_, c.retain_by.ensures)
