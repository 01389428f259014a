-- The numbers below a width.
use Rattle.std.proofs.Common.{◌≡◌, ℕ, ◌&&◌, ap, sym, ◌∙◌}
use Rattle.enumset_repr.specs.BitSet.{BitSet, contains, intersection, below, low}
use Rattle.enumset_repr.specs.Laws.Members.{same_set, contains_low, contains_intersection, contains_below}

-- the members below a width are the intersection with the set of all numbers below it
pub low_below : (s : BitSet) (n : ℕ) → low s n ≡ intersection s (below n)
low_below s n =
    same_set (low s n) (intersection s (below n)) (λ q.
    contains_low s n q ∙ ap (λ b. contains s q && b) (sym (contains_below n q)) ∙ sym (contains_intersection s (below n) q))
