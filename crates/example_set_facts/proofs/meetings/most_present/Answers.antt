use Rattle.std.proofs.Common.{arith}
use Rattle.enumset.specs.Sets.{decided, place_is, place_is_valid}
use Rattle.example_set_facts.specs.contracts.seats.Seat.{the_type}
use Rattle.example_set_facts.specs.declared.seats.Seat.TheVariants.{Chair}
use Rattle.example_set_facts.proofs.meetings.most_present.Goals as goal

-- at first all seats are left
pub loop-next-init : goal.loop-next-init
loop-next-init c = record {
  most = λ other gone. let is_left = place_is_valid the_type other in grind (arith, decided);
  first = λ other gone same. let is_left = place_is_valid the_type other in grind (arith, decided);
  before = λ other is. let least = place_is the_type Chair in grind (arith, decided);
}
