use Rattle.std.proofs.Common.{◌≡◌, ◌+◌, ◌<◌, ◌^◌, true, length, string_bytes}
use Rattle.std.specs.Result.{result_err}
use Rattle.enumset_commands.specs.Lines.{commands_from, commands_of_text}
use Rattle.enumset_machine.proofs.Answered.{answer_after}
use Rattle.enumset_machine.proofs.serve.answer_lines.Given as goal
use Rattle.enumset_machine.specs.Answers.{answer_by}
use Rattle.enumset_machine.specs.Plans.{outcome_by, replies_by}
use Rattle.enumset_machine.specs.States.{start}

-- Until memory runs out, the text so far, with the replies to the remaining lines, is the answer to the input. The
-- remaining lines have the fault of the input.
abbrev pub invariant-loop-line : goal.invariant-loop-line
invariant-loop-line g l =
    let command_of = g.S.Command.LineCommand.command_of in
    let outcome = outcome_by g.S.RunSet.rules g.S.Commands.plan in
    record {
      commands : l.has_room ≡ true → answer_after outcome l.machine (string_bytes l.text) (commands_from command_of (l.number + 1) l.line-iterator) ≡ answer_by (replies_by outcome start) (commands_of_text command_of l.input);
      fault : result_err (commands_from command_of (l.number + 1) l.line-iterator) ≡ result_err (commands_of_text command_of l.input);
      counted : l.number + length l.line-iterator < 2 ^ 64;
    }
