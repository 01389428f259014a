use Rattle.std.proofs.Common.{◌≡◌, ℕ, true}
use Rattle.enumset_repr.specs.BitSet.{BitSet, len, difference, is_disjoint}
use Rattle.enumset_sets.specs.Elements.{valid_bits}
use Rattle.enumset_sets.specs.FixedPoints.{LeadsBy, IsWorklist}
use Rattle.enumset_sets.proofs.fixed_points.reachable.Given as goal

-- no element is both done and pending, and for all rows by which the closure leads, the two sets are a worklist
abbrev pub invariant-loop-element : goal.invariant-loop-element
invariant-loop-element g l =
    (is_disjoint l.done l.pending ≡ true)
    × ((rows : ℕ → BitSet) → LeadsBy g.T.EnumSetType.elements.bit g.F.Fn g.O.Into.converts l.next rows → IsWorklist rows l.fn.start l.done l.pending)

-- how many variants are not done
abbrev pub decreases-loop-element : goal.decreases-loop-element
decreases-loop-element g l = len (difference (valid_bits g.T.EnumSetType.elements) l.done)
