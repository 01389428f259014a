use Rattle.enumset_repr.specs.Laws.Algebra.{intersection_within}
use Rattle.enumset_repr.specs.Laws.Numbers.{bits_number}
use Rattle.enumset_sets.proofs.laws.cut_number_and_back.Goals as goal
use Rattle.enumset_sets.specs.Laws.Conversions.{low_part_within}

pub returns : goal.returns
returns g c =
    rw bits_number
    (intersection_within _ _ (low_part_within _ _ _ c.learn_members.ensures.valid))
