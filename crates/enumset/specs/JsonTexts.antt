-- The texts of the faults of JSON values.
--     json_fault_text      the text of a fault
use Rattle.std.specs.Prelude.{ℕ, List, ◌++◌, codes}
use Rattle.std.specs.Fmt.{decimal}
use Rattle.enumset.specs.declared.set_json.fault.JsonFault.{JsonFault}
use Rattle.enumset.specs.declared.set_json.fault.JsonFault.TheVariants.{TooWide, NotANumber, NotWhole, OutOfRange, NotAnArray, NotAWord, NotAnObject, NotAText, NotABoolean, UnknownBits, UnknownName, NotJson, OutOfMemory}

abbrev pub json_fault_text : JsonFault → List ℕ
json_fault_text TooWide = codes "a member is too large for the width"
json_fault_text NotANumber = codes "not a number"
json_fault_text NotWhole = codes "not a whole number of 64 bits"
json_fault_text OutOfRange = codes "number out of range"
json_fault_text NotAnArray = codes "not an array"
json_fault_text (NotAWord place) = codes "element " ++ decimal place ++ codes ": not a whole number of 64 bits"
json_fault_text NotAnObject = codes "not an object"
json_fault_text (NotAText place) = codes "element " ++ decimal place ++ codes ": not a text"
json_fault_text (NotABoolean place) = codes "name " ++ decimal place ++ codes ": not a boolean"
json_fault_text UnknownBits = codes "unknown bits"
json_fault_text (UnknownName place) = codes "name " ++ decimal place ++ codes ": unknown"
json_fault_text (NotJson line) = codes "line " ++ decimal line ++ codes ": not JSON"
json_fault_text OutOfMemory = codes "out of memory"
