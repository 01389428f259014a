use Rattle.std.proofs.Common.{◌∙◌}
use Rattle.enumset.proofs.JsonLaws.{number_accepted, accepted_within}
use Rattle.enumset.proofs.laws.json_number_and_back.Goals as goal

pub returns : goal.returns
returns g c = λ fits. number_accepted _ _ _ c.args.unknown fits ∙ accepted_within _ _ c.args.unknown c.number_and_back.ensures.valid
