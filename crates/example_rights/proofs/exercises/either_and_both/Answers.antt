use Rattle.std.proofs.Common.{arith}
use Rattle.enumset.specs.Sets.{same_both, decided}
use Rattle.example_rights.proofs.exercises.either_and_both.Goals as goal

pub returns : goal.returns
returns c = same_both (λ s t. (s, t)) _ _ _ _ (λ q. grind (arith, decided)) (λ q. grind (arith, decided))
