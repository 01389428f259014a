use Rattle.std.proofs.Common.{◌≡◌}
use Rattle.enumset.specs.Sets.{from_list, union, intersection}
use Rattle.example_set_facts.specs.Bits.{dangerous_bits}
use Rattle.example_set_facts.proofs.dangers.dangerous.Given as goal

-- what was found so far, with what will be found among the remaining ones
abbrev pub invariant-loop-asked : goal.invariant-loop-asked
invariant-loop-asked l = union l.found (intersection (from_list l.asked-iterator.items) dangerous_bits) ≡ intersection l.fn.granted dangerous_bits
