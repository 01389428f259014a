use Rattle.enumset_machine.proofs.WordsLeave.{outcome_leaves, unchanged}
use Rattle.enumset_machine.proofs.machine.MachineOver+EnumSet+T.step.Goals as goal
use Rattle.enumset_sets.specs.Elements.{valid_bits}

pub returns-clause-err : goal.returns-clause-err
returns-clause-err g c =
    unchanged _ _ _ _ _ (outcome_leaves (valid_bits g.T.EnumSetType.elements) c.args.self.now c.args.command.now) c.answer.ensures c.to_reply.ensures.succeeds
