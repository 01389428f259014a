-- The argument of the program, and its faults: their texts, their exit statuses, and when they may be reported.
--     program_fault_text, status_of      the text and the exit status of a fault of the program
--     type_of_arguments      the type that the arguments name, from what was found of the first and of the second
--     IsFaultOver      whether the program may report a fault, for an input with this answer
--     AppendsFrontOf      the contents of a writer grow by the first bytes of a text
use Rattle.std.specs.Prelude.{◌≢◌, ℕ, List, [], take, codes, Option, Result, Ok, Err, ok_or, IsOkAnd, ⊤}
use Rattle.std.specs.Io.KnownBytes.{Appends}
use Rattle.std.specs.declared.env.FillError.{FillError}
use Rattle.std.specs.declared.env.FillError.TheVariants.{NotPresent, TooLong}
use Rattle.enumset_commands.specs.declared.text_fault.TextFault.{TextFault}
use Rattle.enumset_commands.specs.declared.text_fault.TextFault.TheVariants.{OutOfMemory}
use Rattle.enumset_machine.specs.declared.worked.Worked.{Worked}
use Rattle.enumset_machine.specs.WorkedTypes.{worked_of}
use Rattle.enumset_run.specs.declared.fault.ProgramFault.{ProgramFault}
use Rattle.enumset_run.specs.declared.fault.ProgramFault.TheVariants.{OneArgument, UnknownType, Text, Reading, Writing}
use Rattle.enumset_commands.specs.Texts.{fault_text, IsFaultOf}

abbrev pub program_fault_text : ProgramFault → List ℕ
program_fault_text OneArgument = codes "one argument: the name of a type"
program_fault_text UnknownType = codes "unknown type"
program_fault_text (Text fault) = fault_text fault
program_fault_text Reading = codes "reading failed"
program_fault_text Writing = codes "writing failed"

-- 2 where the request is at fault, 3 if memory ran out, 1 if standard input or output failed
abbrev pub status_of : ProgramFault → ℕ
status_of (Text OutOfMemory) = 3
status_of Reading = 1
status_of Writing = 1
status_of other = 2

-- Reading may fail over any input, memory may be refused if there are replies, and writing may fail if there is
-- something to write. Any other fault is the fault of the input.
abbrev pub IsFaultOver : Result (List ℕ) TextFault → ProgramFault → Type 0
IsFaultOver answer (Text fault) = IsFaultOf answer fault
IsFaultOver answer Reading = ⊤
IsFaultOver answer Writing = IsOkAnd answer (λ text. text ≢ [])
IsFaultOver answer other = ⊥

-- known bytes grow by the first n bytes of a text, for some n
abbrev pub AppendsFrontOf : Option (List ℕ) → Option (List ℕ) → List ℕ → Type 0
AppendsFrontOf old new text = (n : ℕ) × Appends old new (take n text)

-- There is exactly one argument if the first is found and the second is not. An argument of n bytes, or one
-- that is too long, was found.
abbrev pub type_of_arguments : Result ℕ FillError → List ℕ → Result ℕ FillError → Result Worked ProgramFault
type_of_arguments (Ok n) name (Err NotPresent) = ok_or (worked_of (take n name)) UnknownType
type_of_arguments (Err TooLong) name (Err NotPresent) = Err UnknownType
type_of_arguments _ name _ = Err OneArgument
