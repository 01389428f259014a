use Rattle.std.proofs.Common.{arith}
use Rattle.enumset.specs.Sets.{same_both, decided}
use Rattle.example_set_facts.proofs.parsing.divided.Goals as goal

pub returns : goal.returns
returns c = same_both (λ s t. (s, t)) _ _ _ _ (λ bit. grind (arith, decided)) (λ bit. grind (arith, decided))
