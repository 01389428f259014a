use Rattle.std.proofs.Common.{◌≡◌}
use Rattle.enumset.specs.Sets.{from_list, difference}
use Rattle.example_set_facts.proofs.walks.without_each.Given as goal

-- what is left so far, without the remaining ones
abbrev pub invariant-loop-element : goal.invariant-loop-element
invariant-loop-element g l = difference l.left (from_list l.element-iterator.items) ≡ difference l.one l.other
