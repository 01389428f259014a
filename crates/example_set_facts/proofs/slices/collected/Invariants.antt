use Rattle.std.proofs.Common.{◌≡◌, map, take}
use Rattle.enumset.specs.Sets.{from_list}
use Rattle.example_set_facts.proofs.slices.collected.Given as goal

-- the elements so far were inserted
abbrev pub invariant-loop-element : goal.invariant-loop-element
invariant-loop-element g l = l.all ≡ from_list (map g.T.EnumSetType.elements.bit (take l.element-index l.elements))
