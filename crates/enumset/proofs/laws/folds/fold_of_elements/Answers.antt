use Rattle.enumset_sets.specs.Laws.ManySets.{from_list_same}
use Rattle.enumset.proofs.laws.folds.fold_of_elements.Goals as goal

pub returns : goal.returns
returns g c = from_list_same g.T.EnumSetType.elements.bit
