use Rattle.std.proofs.Common.{◌≡◌, drop}
use Rattle.example_door.specs.Machines.{after_all}
use Rattle.example_door.proofs.machine.run.Given as goal

-- the remaining transitions lead from the state to the same state as all transitions from the first
abbrev pub invariant-loop-transition : goal.invariant-loop-transition
invariant-loop-transition l = after_all (drop l.transition-index l.transitions) l.state ≡ after_all l.transitions l.fn.start
