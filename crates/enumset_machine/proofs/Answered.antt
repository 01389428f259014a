-- The text of the replies so far, and of the replies to the remaining commands.
use Rattle.std.proofs.Common.{◌≡◌, ℕ, List, [], ◌++◌, codes, Some, None, Result, Ok, Err, refl, ap, append_assoc, append-nil}
use Rattle.std.specs.Result.{result_err}
use Rattle.enumset_commands.specs.Lines.{before}
use Rattle.enumset_commands.specs.Texts.{IsFaultOf, text, text_of}
use Rattle.enumset_commands.specs.declared.reply.Reply.{Reply}
use Rattle.enumset_commands.specs.declared.text_fault.TextFault.{TextFault}
use Rattle.enumset_commands.specs.declared.text_fault.TextFault.TheVariants.{OutOfMemory}
use Rattle.enumset_machine.specs.Answers.{answer_by}
use Rattle.enumset_machine.specs.Plans.{Outcome, replies_by}
use Rattle.enumset_machine.specs.States.{State, start}

-- the answer, if this text has been written, a machine has this state, and these commands remain
abbrev pub answer_after : {C : Type 0} → (State → C → Outcome) → State → List ℕ → Result (List C) TextFault → Result (List ℕ) TextFault
answer_after outcome s written (Ok cs) = Ok (written ++ text (replies_by outcome s cs))
answer_after outcome s written (Err fault) = Err fault

pub answer_after-start : {C : Type 0} (outcome : State → C → Outcome) (read : Result (List C) TextFault) → answer_after outcome start [] read ≡ answer_by (replies_by outcome start) read
answer_after-start outcome (Ok cs) = refl
answer_after-start outcome (Err fault) = refl

-- one more command
pub answer_after-before : {C : Type 0} (outcome : State → C → Outcome) (s : State) (written : List ℕ) (c : C) (n : ℕ) (rest : Result (List C) TextFault)
    → answer_after outcome s written (before (Some c) n rest) ≡ answer_after outcome (outcome s c).state (written ++ text_of (outcome s c).reply ++ codes "\n") rest
answer_after-before outcome s written c n (Ok cs) =
    let reply = text_of (outcome s c).reply in
    let rest = text (replies_by outcome (outcome s c).state cs) in
    ap Ok (rw (append_assoc written reply (codes "\n"), append_assoc written (reply ++ codes "\n") rest) refl)
answer_after-before outcome s written c n (Err fault) = refl

-- no command is left
pub answer_after-end : {C : Type 0} (outcome : State → C → Outcome) (s : State) (written : List ℕ) → answer_after outcome s written (Ok []) ≡ Ok written
answer_after-end outcome s written = ap Ok (append-nil written)

-- a command adds no fault
pub result_err-before : {C : Type 0} (c : C) (n : ℕ) (rest : Result (List C) TextFault) → result_err (before (Some c) n rest) ≡ result_err rest
result_err-before c n (Ok ds) = refl
result_err-before c n (Err fault) = refl

-- the fault of the lines, and out of memory if they have none
pub IsFaultOf-own : {C : Type 0} (replies : List C → List Reply) (read : Result (List C) TextFault) (fault : TextFault) → Some fault ≡ result_err read → IsFaultOf (answer_by replies read) fault
IsFaultOf-own replies (Ok cs) fault own = absurd (cc)
IsFaultOf-own replies (Err other) fault own = cc

pub IsFaultOf-memory : {C : Type 0} (replies : List C → List Reply) (read : Result (List C) TextFault) → None ≡ result_err read → IsFaultOf (answer_by replies read) OutOfMemory
IsFaultOf-memory replies (Ok cs) none = refl
IsFaultOf-memory replies (Err fault) none = absurd (cc)

pub ruleset line_steps = (answer_after-start, answer_after-before, answer_after-end, result_err-before, IsFaultOf-own, IsFaultOf-memory)
