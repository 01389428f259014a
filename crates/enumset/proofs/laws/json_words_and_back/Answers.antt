use Rattle.std.proofs.Common.{◌∙◌}
use Rattle.enumset.proofs.JsonLaws.{words_accepted, accepted_within}
use Rattle.enumset.proofs.laws.json_words_and_back.Goals as goal

pub returns : goal.returns
returns g c =
    words_accepted _ _ _ c.args.unknown c.all_words_and_back.ensures.back ∙ accepted_within _ _ c.args.unknown c.all_words_and_back.ensures.valid
