use Rattle.example_door.proofs.Safe.{row_safe}
use Rattle.example_door.proofs.door.Door.take.Goals as goal

pub invariant_of-self : goal.invariant_of-self
invariant_of-self c = record { safe = rw (c.in_ok-self.ensures.next, c.transition.ensures) (row_safe c.args.event _ c.args.self.now.safe) }
