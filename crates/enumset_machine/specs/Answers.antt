-- The answer to an input: the text of the replies to the commands of its lines, or why there is none.
--     commands_of      the commands of an input, or its fault
--     answer_by      the answer, by the commands of an input and their replies
--     answer_to, mixed_answer_to      the answer to an input of commands, or of commands of mixed sets
use Rattle.std.specs.Prelude.{ℕ, nat_lt, List, length, Option, Result, Ok, Err, if◌then◌else◌}
use Rattle.enumset_repr.specs.BitSet.{BitSet}
use Rattle.enumset_commands.specs.declared.reply.Reply.{Reply}
use Rattle.enumset_commands.specs.declared.text_fault.TextFault.{TextFault}
use Rattle.enumset_commands.specs.declared.text_fault.TextFault.TheVariants.{TooLong}
use Rattle.enumset_machine.specs.Runs.{replies}
use Rattle.enumset_machine.specs.MixedRuns.{mixed_replies}
use Rattle.enumset_commands.specs.Lines.{command_of, commands_of_text, mixed_command_of}
use Rattle.enumset_commands.specs.Texts.{text}

-- the length is tested first: an input has at most a mebibyte
abbrev pub commands_of : {C : Type 0} → (List (List ℕ) → Option C) → List ℕ → Result (List C) TextFault
commands_of command input = if nat_lt 1048576 (length input) then Err TooLong else commands_of_text command input

-- the text of the replies to the commands, or the fault of the input
abbrev pub answer_by : {C : Type 0} → (List C → List Reply) → Result (List C) TextFault → Result (List ℕ) TextFault
answer_by replies (Ok commands) = Ok (text (replies commands))
answer_by replies (Err fault) = Err fault

-- over sets of valid bits
abbrev pub answer_to : BitSet → List ℕ → Result (List ℕ) TextFault
answer_to valid input = answer_by (replies valid) (commands_of command_of input)

-- over sets of bits below a width; some of them are valid
abbrev pub mixed_answer_to : BitSet → ℕ → List ℕ → Result (List ℕ) TextFault
mixed_answer_to valid width input = answer_by (mixed_replies valid width) (commands_of mixed_command_of input)
