use Rattle.enumset.proofs.JsonLaws.{number_accepted, words_accepted}
use Rattle.enumset.proofs.laws.readers.older_reader.Goals as goal

pub returns : goal.returns
returns g c = record {
  number = λ fits. number_accepted _ _ _ c.args.unknown fits;
  words = words_accepted _ _ _ c.args.unknown c.all_words_and_back.ensures.back;
}
