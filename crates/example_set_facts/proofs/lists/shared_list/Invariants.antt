use Rattle.std.proofs.Common.{◌≡◌, ◌++◌, map, filter}
use Rattle.enumset.specs.Sets.{contains, ascending}
use Rattle.example_set_facts.proofs.lists.shared_list.Given as goal

-- the elements so far, and the remaining ones that the other set has
abbrev pub invariant-loop-element : goal.invariant-loop-element
invariant-loop-element g l = map g.T.EnumSetType.elements.bit l.list.items ++ filter (contains l.other) l.element-iterator.items ≡ filter (contains l.other) (ascending l.members)
