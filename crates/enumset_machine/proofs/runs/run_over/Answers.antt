use Rattle.std.proofs.Common.{◌∙◌, ◌<◌, length, arith}
use Rattle.enumset_machine.proofs.Composed.{replies_by-next}
use Rattle.enumset_machine.proofs.runs.run_over.Goals as goal
use Rattle.enumset_machine.specs.Plans.{outcome_by}

pub loop-command-preserved : goal.loop-command-preserved
loop-command-preserved g c =
    let outcome = outcome_by g.S.RunSet.rules g.S.Commands.plan in
    let within : c.loop-command.command-index < length c.args.commands.now = omega arith in
    rw (c.in_ok-push.ensures.items, c.in_ok-to_reply.ensures.reply) (replies_by-next outcome _ _ _ _ _ _ _ within c.command-item.is c.answer_one.ensures ∙ c.loop-command.invariant)
