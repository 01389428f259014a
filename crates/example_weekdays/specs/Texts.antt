-- The texts of faults.
--     fault_text      the text of a fault
use Rattle.std.specs.Prelude.{ℕ, List, ◌++◌, codes}
use Rattle.std.specs.Fmt.{decimal}
use Rattle.example_weekdays.specs.declared.fault.Fault.{Fault}
use Rattle.example_weekdays.specs.declared.fault.Fault.TheVariants.{OutOfMemory, NoName, NoDay}

abbrev pub fault_text : Fault → List ℕ
fault_text OutOfMemory = codes "memory ran out"
fault_text (NoName line) = codes "line " ++ decimal line ++ codes ": no `NAME: DAY..`"
fault_text (NoDay line word) = codes "line " ++ decimal line ++ codes ": no day `" ++ word.now ++ codes "`"
