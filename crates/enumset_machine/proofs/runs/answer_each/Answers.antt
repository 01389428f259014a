use Rattle.std.proofs.Common.{◌∙◌, ◌<◌, length, arith}
use Rattle.enumset_machine.proofs.Composed.{answers-next, state_after-next}
use Rattle.enumset_machine.proofs.runs.answer_each.Goals as goal
use Rattle.enumset_machine.specs.Plans.{outcome_by}
use Rattle.enumset_machine.specs.Replies.{reply_by}

pub loop-i-preserved : goal.loop-i-preserved
loop-i-preserved g c =
    let outcome = outcome_by g.S.RunSet.rules g.S.Commands.plan in
    let within : c.loop-i.i < length c.args.commands.now = omega arith in
    let room : c.loop-i.i < length c.loop-i.answers = omega arith in
    record {
      answers = answers-next (reply_by g.S.RunSet.members) outcome _ _ _ _ _ _ _ room within c.index-commands-i.is c.answer_one.ensures ∙ c.loop-i.invariant.answers;
      state = state_after-next outcome _ _ _ _ _ _ within c.index-commands-i.is c.answer_one.ensures ∙ c.loop-i.invariant.state;
    }
