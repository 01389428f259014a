use Rattle.enumset_repr.specs.Laws.Numbers.{bits_number}
use Rattle.enumset_sets.proofs.laws.number_and_back.Goals as goal

pub returns : goal.returns
returns g c = record { back = bits_number _; valid = c.learn_members.ensures.valid }
