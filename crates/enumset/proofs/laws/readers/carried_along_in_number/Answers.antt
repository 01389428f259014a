use Rattle.std.proofs.Common.{◌∙◌}
use Rattle.enumset.proofs.JsonLaws.{number_accepted, accepted_within, mixed_number_and_back}
use Rattle.enumset.proofs.laws.readers.carried_along_in_number.Goals as goal

pub returns : goal.returns
returns g c = record {
  carried = λ within. mixed_number_and_back _ _ within;
  as_it_was = λ fits. number_accepted _ _ _ c.args.unknown fits ∙ accepted_within _ _ c.args.unknown c.number_and_back.ensures.valid;
}
