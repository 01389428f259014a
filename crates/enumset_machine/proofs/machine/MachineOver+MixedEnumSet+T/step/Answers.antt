use Rattle.enumset_machine.proofs.WordsLeave.{mixed_outcome_leaves, unchanged}
use Rattle.enumset_machine.proofs.machine.MachineOver+MixedEnumSet+T.step.Goals as goal
use Rattle.enumset_sets.specs.Elements.{valid_bits}

pub returns-clause-err : goal.returns-clause-err
returns-clause-err g c =
    unchanged _ _ _ _ _ (mixed_outcome_leaves (valid_bits g.T.EnumSetType.elements) g.T.Repr.EnumSetTypeRepr.WIDTH c.args.self.now c.args.command.now) c.answer.ensures c.to_reply.ensures.succeeds
