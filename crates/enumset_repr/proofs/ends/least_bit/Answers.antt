use Rattle.std.proofs.Common.{ap, ◌∙◌, arith}
use Rattle.std.proofs.lemmas.Bool.Decides.{nat_tests}
use Rattle.enumset_repr.specs.Ends.{least}
use Rattle.enumset_repr.specs.Laws.Members.{members, same_set}
use Rattle.enumset_repr.proofs.ends.least_bit.Goals as goal

pub returns : goal.returns
returns g c = c.least_bit_from_word.ensures ∙ ap least (same_set _ _ (λ q. grind (arith, members, nat_tests)))
