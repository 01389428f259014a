use Rattle.std.proofs.Common.{◌≡◌, ◌+◌, ◌≤◌, drop, count_by}
use Rattle.enumset.specs.Sets.{contains}
use Rattle.example_set_facts.proofs.slices.counted_in.Given as goal

-- the count so far, plus the count of the remaining elements; it is at most the number of elements so far
abbrev pub invariant-loop-element : goal.invariant-loop-element
invariant-loop-element g l =
    (l.count + count_by (λ t. contains l.members (g.T.EnumSetType.elements.bit t)) (drop l.element-index l.elements) ≡ count_by (λ t. contains l.members (g.T.EnumSetType.elements.bit t)) l.elements)
    × (l.count ≤ l.element-index)
