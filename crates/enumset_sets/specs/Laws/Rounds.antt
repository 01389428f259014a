-- Laws of a loop that adds in rounds what a step leads to, and compares the sets before and after the round.
--     round_last, round_smaller      if the round added nothing, what is reached is the least closed set;  otherwise
--         fewer numbers are left
--     round_last_len, round_smaller_len      the same, where the loop compares how many members the sets have
use Rattle.std.proofs.Common.{◌≡◌, ◌<◌, ◌==◌, true, false, arith, sym, ◌∙◌}
use Rattle.enumset_repr.specs.BitSet.{BitSet, len, union, difference, is_subset, is_same}
use Rattle.enumset_repr.specs.Laws.Counting.{len_union_same}
use Rattle.enumset_repr.specs.Rules.Members.{decided}
use Rattle.enumset_sets.specs.FixedPoints.{IsReached, IsLeastClosed}
use Rattle.enumset_sets.specs.Laws.Counts.{fewer_left_than}
use Rattle.enumset_sets.specs.Laws.FixedPoints.{reached_last}

nothing_new : (s t : BitSet) → is_same (union s t) s ≡ is_subset t s
nothing_new s t = grind (arith, decided)

pub round_last : (step : BitSet → BitSet) (start s : BitSet) → IsReached step start s → is_same (union s (step s)) s ≡ true → IsLeastClosed step start (union s (step s))
round_last step start s reached same = reached_last step start s reached (sym (nothing_new s (step s)) ∙ same)

pub round_smaller : (all s t : BitSet) → is_subset t all ≡ true → is_same (union s t) s ≡ false → len (difference all (union s t)) < len (difference all s)
round_smaller all s t valid new = fewer_left_than all s t valid (sym (nothing_new s t) ∙ new)

pub round_last_len : (step : BitSet → BitSet) (start s : BitSet) → IsReached step start s → (len (union s (step s)) == len s) ≡ true → IsLeastClosed step start (union s (step s))
round_last_len step start s reached same = reached_last step start s reached (sym (len_union_same s (step s)) ∙ same)

pub round_smaller_len : (all s t : BitSet) → is_subset t all ≡ true → (len (union s t) == len s) ≡ false → len (difference all (union s t)) < len (difference all s)
round_smaller_len all s t valid new = fewer_left_than all s t valid (sym (len_union_same s t) ∙ new)
