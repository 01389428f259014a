use Rattle.enumset.proofs.set_json.mixed_texts.mixed_from_number_text.Goals as goal
use Rattle.serde_json.specs.Errors.{IsMemory}
use Rattle.enumset.proofs.PlainLists.{refused}
use Rattle.enumset.specs.Json.{mixed_set_of_number}

pub returns-in_err-from_str-in-None-clause-read : goal.returns-in_err-from_str-in-None-clause-read
returns-in_err-from_str-in-None-clause-read g c =
    refused (mixed_set_of_number g.T.Repr.EnumSetTypeRepr.WIDTH) c.args.text.now c.from_residual.result (IsMemory c.in_err-from_str-in-None.field-0.0) c.from_residual.ensures.1 c.in_err-from_str-in-None.ensures.err
