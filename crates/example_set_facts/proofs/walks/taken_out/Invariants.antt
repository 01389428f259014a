use Rattle.std.proofs.Common.{◌≡◌}
use Rattle.enumset.specs.Sets.{len, union, intersection}
use Rattle.example_set_facts.proofs.walks.taken_out.Given as goal

-- what is taken so far, with what will be taken of the rest
abbrev pub invariant-loop-element : goal.invariant-loop-element
invariant-loop-element g l = union l.taken (intersection l.rest l.other) ≡ intersection l.fn.pending l.other

abbrev pub decreases-loop-element : goal.decreases-loop-element
decreases-loop-element g l = len l.rest
