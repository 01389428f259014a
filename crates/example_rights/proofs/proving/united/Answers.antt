use Rattle.std.proofs.Common.{arith, Some}
use Rattle.enumset.specs.Sets.{same_in, members}
use Rattle.example_rights.proofs.proving.united.Goals as goal

pub returns : goal.returns
returns c = same_in Some _ _ (λ q. grind (arith, members))
