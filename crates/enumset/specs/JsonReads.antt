-- What JSON texts are read as.
--     value_read      the result of a reader of values for the value that a text is, if it is one
--     IsResult      a result is the expected one;  if none is expected, since the text is not a value, it is the fault
--         `NotJson` at some line
--     IsReadOf      a result is that of a reader for the value that a text is, or the fault `NotJson` at some line if
--         the text is not a value, or the fault `OutOfMemory`
use Rattle.std.specs.Prelude.{◌≡◌, ◌⊎◌, ℕ, List, Option, Some, None, option_map, Result, Err}
use Rattle.enumset_repr.specs.BitSet.{BitSet}
use Rattle.serde_json.specs.Data.{Data}
use Rattle.serde_json.specs.Read.{read}
use Rattle.enumset.specs.declared.set_json.fault.JsonFault.{JsonFault}
use Rattle.enumset.specs.declared.set_json.fault.JsonFault.TheVariants.{NotJson, OutOfMemory}

abbrev pub value_read : (Data → Result BitSet JsonFault) → List ℕ → Option (Result BitSet JsonFault)
value_read reader text = option_map reader (read text)

abbrev pub IsResult : Option (Result BitSet JsonFault) → Result BitSet JsonFault → Type 0
IsResult (Some wanted) result = result ≡ wanted
IsResult None result = (line : ℕ) × (result ≡ Err (NotJson line))

abbrev pub IsReadOf : (Data → Result BitSet JsonFault) → List ℕ → Result BitSet JsonFault → Type 0
IsReadOf reader text result = (result ≡ Err OutOfMemory) ⊎ IsResult (value_read reader text) result
