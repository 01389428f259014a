use Rattle.std.proofs.Common.{arith}
use Rattle.std.proofs.lemmas.Grind.{common_steps}
use Rattle.enumset_repr.specs.Laws.Members.{members}
use Rattle.example_permissions.proofs.decision.granted.Goals as goal

pub loop-grant-preserved : goal.loop-grant-preserved
loop-grant-preserved c = λ q. let before = c.loop-grant.invariant q in grind (arith, members, common_steps)
