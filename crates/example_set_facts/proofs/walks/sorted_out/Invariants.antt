use Rattle.std.proofs.Common.{◌≡◌}
use Rattle.enumset.specs.Sets.{from_list, union, intersection, difference}
use Rattle.example_set_facts.proofs.walks.sorted_out.Given as goal

-- each part so far, with its share of the remaining ones
abbrev pub invariant-loop-element : goal.invariant-loop-element
invariant-loop-element g l =
    (union l.inside (intersection (from_list l.element-iterator.items) l.other) ≡ intersection l.whole l.other)
    × (union l.outside (difference (from_list l.element-iterator.items) l.other) ≡ difference l.whole l.other)
