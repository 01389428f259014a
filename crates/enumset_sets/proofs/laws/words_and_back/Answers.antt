use Rattle.enumset_sets.specs.Laws.Conversions.{words_within}
use Rattle.enumset_sets.proofs.laws.words_and_back.Goals as goal

pub returns : goal.returns
returns g c =
    record { back = words_within _ _; valid = c.learn_members.ensures.valid }
