use Rattle.std.proofs.Common.{◌≡◌, ◌++◌, drop}
use Rattle.enumset_machine.proofs.runs.run_over.Given as goal
use Rattle.enumset_machine.specs.Plans.{outcome_by, replies_by}
use Rattle.enumset_machine.specs.States.{start}

-- the replies so far, and then the replies to the remaining commands, are the replies to all commands
abbrev pub invariant-loop-command : goal.invariant-loop-command
invariant-loop-command g l =
    let outcome = outcome_by g.S.RunSet.rules g.S.Commands.plan in
    l.replies.items ++ replies_by outcome l.machine (drop l.command-index l.commands) ≡ replies_by outcome start l.commands
