use Rattle.enumset_sets.specs.Laws.ManySets.{union_all_same, intersection_all_same}
use Rattle.enumset.proofs.laws.folds.fold_of_sets.Goals as goal

pub returns : goal.returns
returns c = record {
  union = union_all_same;
  intersection = intersection_all_same;
}
