-- The commands that the lines of an input write.
--     tokens_of      the tokens of a line, which spaces separate
--     without_words      the command without words that fields write after a name
--     command_of      the command that the tokens of a line write
--     mixed_command_of      the command of mixed sets that the tokens of a line write
--     before      a command, and then the commands of the later lines; or the fault of a line that is not a command
--     line_then, commands_from      the commands of a line and of those after it;  the commands of lines
--     commands_of_text      the commands of an input, or the fault of its first line that is not a command, by what the
--         tokens of a line write
use Rattle.std.specs.Prelude.{◌==◌, ℕ, ◌+◌, not, List, [], ◌∷◌, length, filter, Option, Some, None, option_map, Result, Ok, Err}
use Rattle.std.specs.List.{slice_split}
use Rattle.std.specs.Option.{option_or}
use Rattle.std.specs.Str.{byte}
use Rattle.std.specs.Str.Lines.{lines}
use Rattle.enumset_commands.specs.declared.command.Command.{Command}
use Rattle.enumset_commands.specs.declared.mixed_command.MixedCommand.{MixedCommand}
use Rattle.enumset_commands.specs.declared.mixed_command.MixedCommand.TheVariants.{Common}
use Rattle.enumset_commands.specs.declared.text_fault.TextFault.{TextFault}
use Rattle.enumset_commands.specs.declared.text_fault.TextFault.TheVariants.{BadLine}
use Rattle.enumset_commands.specs.Verbs.{assignments, queries, changes, word_verbs, own_verbs, written}

-- the parts between spaces that are not empty
abbrev pub tokens_of : List ℕ → List (List ℕ)
tokens_of line = filter (λ token. not (length token == 0)) (slice_split (λ b. b == byte " ") line)

-- a command that takes no words
abbrev pub without_words : List ℕ → List (List ℕ) → Option Command
without_words name fields =
    option_or (written assignments name fields) (option_or (written queries name fields) (written changes name fields))

-- the command that the tokens of a line write: the first token is its name
abbrev pub command_of : List (List ℕ) → Option Command
command_of [] = None
command_of (name ∷ fields) = option_or (without_words name fields) (written word_verbs name fields)

-- a command of mixed sets alone, or a command of every run
abbrev pub mixed_command_of : List (List ℕ) → Option MixedCommand
mixed_command_of [] = None
mixed_command_of (name ∷ fields) = option_or (written own_verbs name fields) (option_map Common (command_of (name ∷ fields)))

-- the command of line n, if it is one, and then the commands of the later lines
abbrev pub before : {C : Type 0} → Option C → ℕ → Result (List C) TextFault → Result (List C) TextFault
before None n rest = Err (BadLine n)
before (Some c) n (Ok cs) = Ok (c ∷ cs)
before (Some c) n (Err later) = Err later

-- the commands of line n, which has these tokens, and of the later lines: a line without tokens is skipped, but counted
abbrev pub line_then : {C : Type 0} → (List (List ℕ) → Option C) → ℕ → List (List ℕ) → Result (List C) TextFault → Result (List C) TextFault
line_then command n [] rest = rest
line_then command n (token ∷ tokens) rest = before (command (token ∷ tokens)) n rest

-- the commands of lines that are counted from n
abbrev pub commands_from : {C : Type 0} → (List (List ℕ) → Option C) → ℕ → List (List ℕ) → Result (List C) TextFault
commands_from command n [] = Ok []
commands_from command n (line ∷ more) = line_then command n (tokens_of line) (commands_from command (n + 1) more)

-- The lines are as in std's `lines`, and are counted from 1. A line feed ends a line, and a carriage return immediately
-- before it is dropped. A last line without a line feed counts unless it is empty.
abbrev pub commands_of_text : {C : Type 0} → (List (List ℕ) → Option C) → List ℕ → Result (List C) TextFault
commands_of_text command input = commands_from command 1 (lines input)
