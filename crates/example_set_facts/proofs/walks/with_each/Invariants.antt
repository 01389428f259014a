use Rattle.std.proofs.Common.{◌≡◌}
use Rattle.enumset.specs.Sets.{from_list, union}
use Rattle.example_set_facts.proofs.walks.with_each.Given as goal

-- the elements so far, with the remaining ones
abbrev pub invariant-loop-element : goal.invariant-loop-element
invariant-loop-element g l = union l.all (from_list l.element-iterator.items) ≡ union l.one l.other
