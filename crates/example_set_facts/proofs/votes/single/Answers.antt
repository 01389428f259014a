use Rattle.std.proofs.Common.{arith}
use Rattle.enumset.specs.Sets.{same_set, members}
use Rattle.example_set_facts.proofs.votes.single.Goals as goal

pub returns-clause-single : goal.returns-clause-single
returns-clause-single c = same_set _ _ (λ bit. grind (arith, members))
