use Rattle.std.proofs.Common.{◌≡◌, ◌+◌, sum_by}
use Rattle.enumset.specs.Sets.{ascending}
use Rattle.example_set_facts.specs.Prices.{price}
use Rattle.example_set_facts.proofs.prices.total_price.Given as goal

-- the total so far, with the prices of the remaining permissions
abbrev pub invariant-loop-asked : goal.invariant-loop-asked
invariant-loop-asked l = l.total + sum_by price l.asked-iterator.items ≡ sum_by price (ascending l.fn.granted)
