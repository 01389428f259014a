use Rattle.enumset_sets.specs.Laws.Folds.{all_of_extended}
use Rattle.enumset_sets.proofs.folds.EnumSetFromIterator.from_iter.Goals as goal

pub returns-clause-ran : goal.returns-clause-ran
returns-clause-ran g c =
    let told = c.in_ok-extend.ensures.ran in
    let end = told.4 in (
      told.0,
      told.1,
      told.2,
      (end.1.0, end.1.1, λ _. (end.0, end.1.2)),
      all_of_extended _ _ _ c.new-all.ensures told.3,
    )
