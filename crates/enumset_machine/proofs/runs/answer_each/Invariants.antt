use Rattle.std.proofs.Common.{◌≡◌, ◌++◌, drop, map, take}
use Rattle.enumset_machine.proofs.runs.answer_each.Given as goal
use Rattle.enumset_machine.specs.Plans.{outcome_by, replies_by, state_after}
use Rattle.enumset_machine.specs.Replies.{reply_by}

-- The replies of the answers so far, and then the replies to the remaining commands, are the replies to all commands.
-- The remaining commands leave the state that all commands leave.
abbrev pub invariant-loop-i : goal.invariant-loop-i
invariant-loop-i g l =
    let outcome = outcome_by g.S.RunSet.rules g.S.Commands.plan in
    record {
      answers : map (reply_by g.S.RunSet.members) (take l.i l.answers) ++ replies_by outcome l.machine (drop l.i l.commands) ≡ replies_by outcome l.initial.machine l.commands;
      state : state_after outcome l.machine (drop l.i l.commands) ≡ state_after outcome l.initial.machine l.commands;
    }
