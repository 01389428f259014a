use Rattle.std.proofs.Common.{arith}
use Rattle.std.proofs.lemmas.Grind.{common_steps}
use Rattle.example_door.proofs.Kept.{kept_all}
use Rattle.example_door.proofs.machine.run.Goals as goal

pub returns-clause-kept : goal.returns-clause-kept
returns-clause-kept c = λ rule all before. let kept = kept_all rule c.args.transitions.now c.args.start all before in grind (arith, common_steps)
