use Rattle.std.proofs.Common.{rules, ◌≡◌, ◌+◌, ◌∷◌, ◌++◌, Some, ap, sym, ◌∙◌, codes, string_bytes}
use Rattle.std.specs.Result.{result_err}
use Rattle.enumset_commands.specs.Lines.{before, commands_from}
use Rattle.enumset_commands.specs.Texts.{text_of}
use Rattle.enumset_machine.proofs.Answered.{answer_after, answer_after-before, result_err-before}
use Rattle.enumset_machine.proofs.serve.answer_lines.Goals as goal
use Rattle.enumset_machine.specs.Plans.{outcome_by}

pub loop-line-preserved-then-has_room : goal.loop-line-preserved-then-has_room
loop-line-preserved-then-has_room g c =
    let command_of = g.S.Command.LineCommand.command_of in
    let outcome = outcome_by g.S.RunSet.rules g.S.Commands.plan in
    let n = c.loop-line.number + 1 in
    let command = c.in-Ok.command in
    let rest = commands_from command_of (n + 1) c.next.new.self in
    let s = c.loop-line.machine in
    let written = string_bytes c.loop-line.text in
    let own : command_of (c.in-Some-next.name.now ∷ c.next-in-loop-line.new.self) ≡ Some command = search rules in
    let line : commands_from command_of n c.loop-line.line-iterator ≡ before (Some command) n rest = search rules in
    record {
      commands = λ accepted.
          let state : c.answer_command.new.machine ≡ (outcome s command).state = search rules in
          let text : string_bytes c.answer_command.new.text ≡ written ++ text_of (outcome s command).reply ++ codes "\n" = search rules in
          rw (state, text) (sym (answer_after-before outcome s written command n rest) ∙ ap (answer_after outcome s written) (sym line) ∙ c.loop-line.invariant.commands (search rules));
      fault = sym (result_err-before command n rest) ∙ ap result_err (sym line) ∙ c.loop-line.invariant.fault;
      counted = search rules;
    }

-- a line without tokens
pub loop-line-preserved : goal.loop-line-preserved
loop-line-preserved g c =
    let command_of = g.S.Command.LineCommand.command_of in
    let n = c.loop-line.number + 1 in
    let passed : commands_from command_of n c.loop-line.line-iterator ≡ commands_from command_of (n + 1) c.next.new.self = search rules in
    record {
      commands = rw passed at c.loop-line.invariant.commands;
      fault = rw passed at c.loop-line.invariant.fault;
      counted = search rules;
    }
