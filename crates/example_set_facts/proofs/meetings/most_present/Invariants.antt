use Rattle.std.proofs.Common.{◌≡◌, ◌≤◌, true, false}
use Rattle.enumset.specs.Sets.{contains, len}
use Rattle.example_set_facts.specs.Bits.{seat}
use Rattle.example_set_facts.specs.Meetings.{visits}
use Rattle.example_set_facts.specs.declared.seats.Seat.{Seat}
use Rattle.example_set_facts.proofs.meetings.most_present.Given as goal

abbrev pub invariant-loop-next : goal.invariant-loop-next
invariant-loop-next l = record {
  -- no seat that is not left came to more meetings than the best one
  most : (other : Seat) → contains l.left (seat other) ≡ false → visits l.meetings (seat other) ≤ visits l.meetings (seat l.best);
  -- nor to as many, unless it is the best one or comes after it
  first : (other : Seat) → contains l.left (seat other) ≡ false → visits l.meetings (seat other) ≡ visits l.meetings (seat l.best) → seat l.best ≤ seat other;
  -- no seat that is left comes before the best one
  before : (other : Seat) → contains l.left (seat other) ≡ true → seat l.best ≤ seat other;
}

abbrev pub decreases-loop-next : goal.decreases-loop-next
decreases-loop-next l = len l.left
