use Rattle.std.proofs.Common.{arith}
use Rattle.enumset.proofs.WrittenValues.{map_flat}
use Rattle.enumset.proofs.set_json.texts.to_map_text.Goals as goal

pub returns-in_ok-to_string-in-None-clause-text : goal.returns-in_ok-to_string-in-None-clause-text
returns-in_ok-to_string-in-None-clause-text g c = grind (arith, map_flat)

pub returns-in_ok-to_string-in-None-clause-reads : goal.returns-in_ok-to_string-in-None-clause-reads
returns-in_ok-to_string-in-None-clause-reads g c = grind (arith, map_flat)
