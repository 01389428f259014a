use Rattle.enumset_repr.specs.Laws.Algebra.{intersection_within}
use Rattle.enumset_repr.specs.Laws.WordLists.{bits_of_words}
use Rattle.enumset_sets.proofs.laws.cut_words_and_back.Goals as goal
use Rattle.enumset_sets.specs.Laws.Conversions.{low_part_within}

pub returns : goal.returns
returns g c =
    rw bits_of_words
    (intersection_within _ _ (low_part_within _ _ _ c.learn_members.ensures.valid))
