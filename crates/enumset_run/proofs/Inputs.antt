-- An input, read up to one byte more than it may have, and the answer to it.
use Rattle.std.proofs.Common.{◌≡◌, ℕ, ◌+◌, Bool, true, false, List, [], ◌++◌, length, take, nat_lt, Option, None, Some, IfSome, Result, Err, ap, ◌∙◌, subst, arith, if◌then◌else◌, refl, option_map, length-take, take_all}
use Rattle.std.proofs.lemmas.Bool.Decides.{nat_tests}
use Rattle.enumset_commands.specs.Lines.{command_of, commands_of_text, mixed_command_of}
use Rattle.enumset_commands.specs.declared.text_fault.TextFault.{TextFault}
use Rattle.enumset_commands.specs.declared.text_fault.TextFault.TheVariants.{TooLong}
use Rattle.enumset_repr.specs.BitSet.{BitSet, from_list}
use Rattle.enumset_machine.specs.Answers.{commands_of, answer_by}
use Rattle.enumset_machine.specs.Runs.{replies}
use Rattle.enumset_machine.specs.MixedRuns.{mixed_replies}
use Rattle.enumset_machine.specs.WorkedTypes.{over, answer_by_width, answer_over}
use Rattle.enumset_machine.specs.declared.serve.TheConstants.{INPUT_LIMIT}
use Rattle.enumset_machine.specs.declared.worked.Worked.{Worked}
use Rattle.enumset_run.specs.declared.program.TheConstants.{READ_LIMIT}

-- what was read from a reader up to a limit, into an empty vector
pub all_read : (limit : ℕ) (known : Option (List ℕ)) (had bs : List ℕ) → had ≡ [] → IfSome (option_map (take limit) known) (λ xs. bs ≡ had ++ xs) → IfSome known (λ bytes. bs ≡ take limit bytes)
all_read limit None had bs none read = tt
all_read limit (Some bytes) had bs none read = read ∙ ap (λ l. l ++ take limit bytes) none

-- a test of the length has the same result over what was read
longer-take : (limit : ℕ) (bytes : List ℕ) → nat_lt limit (length bytes) ≡ true → nat_lt limit (length (take (limit + 1) bytes)) ≡ true
longer-take limit bytes h = let l = length-take (limit + 1) bytes in grind (arith, nat_tests)

within : (limit : ℕ) (bytes : List ℕ) → nat_lt limit (length bytes) ≡ false → take (limit + 1) bytes ≡ bytes
within limit bytes h = take_all (limit + 1) bytes (grind (arith, nat_tests))

tested-take : {X : Type 0} (limit : ℕ) (bytes : List ℕ) (long : X) (f : List ℕ → X) (b : Bool) → nat_lt limit (length bytes) ≡ b
    → (if nat_lt limit (length (take (limit + 1) bytes)) then long else f (take (limit + 1) bytes)) ≡ (if nat_lt limit (length bytes) then long else f bytes)
tested-take limit bytes long f true h = rw (longer-take limit bytes h, h) refl
tested-take limit bytes long f false h = rw (within limit bytes h) refl

-- what was read has the commands of the whole input, and so the same answer
commands_of-take : {C : Type 0} (command : List (List ℕ) → Option C) (bytes : List ℕ) → commands_of command (take READ_LIMIT bytes) ≡ commands_of command bytes
commands_of-take command bytes =
    tested-take INPUT_LIMIT bytes (Err TooLong) (commands_of_text command) (nat_lt INPUT_LIMIT (length bytes)) refl

answer_by_width-take : (width : Option ℕ) (valid : BitSet) (bytes : List ℕ) → answer_by_width width valid (take READ_LIMIT bytes) ≡ answer_by_width width valid bytes
answer_by_width-take None valid bytes = ap (answer_by (replies valid)) (commands_of-take command_of bytes)
answer_by_width-take (Some width) valid bytes = ap (answer_by (mixed_replies valid width)) (commands_of-take mixed_command_of bytes)

-- what holds of the answer to what was read holds of the answer to the input
pub of_input : (P : Result (List ℕ) TextFault → Type 0) (worked : Worked) (known : Option (List ℕ)) (input : List ℕ) → IfSome known (λ bytes. input ≡ take READ_LIMIT bytes) → P (answer_over worked input) → IfSome known (λ bytes. P (answer_over worked bytes))
of_input P worked None input read holds = tt
of_input P worked (Some bytes) input read holds =
    subst P (ap (answer_over worked) read ∙ answer_by_width-take (over worked).1 (from_list (over worked).0) bytes) holds
