use Rattle.std.proofs.Common.{inr}
use Rattle.enumset.proofs.set_json.texts.from_map_text.Goals as goal
use Rattle.serde_json.specs.Errors.{IsMemory}
use Rattle.enumset.proofs.PlainLists.{refused}
use Rattle.enumset.specs.JsonNames.{set_of_map}
use Rattle.enumset.specs.Names.{names_of}

pub returns-in-Some : goal.returns-in-Some
returns-in-Some g c = record { read = inr (c.in-Some.ensures.set c.args.unknown); plain = λ _. c.in-Some.ensures.set c.args.unknown }

pub returns-in_err-from_str-in-None-clause-read : goal.returns-in_err-from_str-in-None-clause-read
returns-in_err-from_str-in-None-clause-read g c =
    refused (set_of_map (names_of g.T.EnumSetType.elements g.T.EnumSetNames.names) c.args.unknown) c.args.text.now c.from_residual.result (IsMemory c.in_err-from_str-in-None.field-0.0) c.from_residual.ensures.1 c.in_err-from_str-in-None.ensures.err
