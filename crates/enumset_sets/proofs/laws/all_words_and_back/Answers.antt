use Rattle.enumset_sets.specs.Laws.Conversions.{words_of_repr}
use Rattle.enumset_sets.proofs.laws.all_words_and_back.Goals as goal

pub returns : goal.returns
returns g c =
    record {
      back = words_of_repr _ _ _ _ g.met.T.Repr.EnumSetTypeRepr.represents.word_count c.learn_members.ensures.within c.learn_members.ensures.valid;
      valid = c.learn_members.ensures.valid;
    }
