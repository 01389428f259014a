use Rattle.enumset.proofs.set_json.texts.from_number_text.Goals as goal
use Rattle.serde_json.specs.Errors.{IsMemory}
use Rattle.enumset.proofs.PlainLists.{refused}
use Rattle.enumset.specs.Json.{set_of_number, width_of}
use Rattle.enumset_sets.specs.Elements.{valid_bits}

pub returns-in_err-from_str-in-None-clause-read : goal.returns-in_err-from_str-in-None-clause-read
returns-in_err-from_str-in-None-clause-read g c =
    refused (set_of_number (valid_bits g.T.EnumSetType.elements) (width_of c.args.width) c.args.unknown) c.args.text.now c.from_residual.result (IsMemory c.in_err-from_str-in-None.field-0.0) c.from_residual.ensures.1 c.in_err-from_str-in-None.ensures.err
