-- One step over words, from either end: what it does to their set, to the number of asks and to the cursors.
--     TakesOut      the set loses only the bit that the step yields, and nothing if it yields None; the number of words
--         stays
--     CountsAsks      the sum of asks and span grows by one if the step yields a bit, and stays otherwise; the span
--         does not grow; if the step yields None, the cursors have met; if they had met before, it yields None and
--         makes no ask
--     MovesFront, MovesBack      only the front cursor, or the back one, may move, towards the other and not past it
use Rattle.std.specs.Prelude.{◌≡◌, ℕ, ◌+◌, ◌≤◌, List, length, Option, None, IfNone, MatchOption, is_some, if◌then◌else◌}
use Rattle.enumset_repr.specs.BitSet.{remove}
use Rattle.enumset_array.specs.Cursors.{Reach}
use Rattle.enumset_repr.specs.Words.{bits_of}

pub record TakesOut (ws : List ℕ) (r : Option ℕ) (vs : List ℕ) : Type 0 where
  pub set : MatchOption r (bits_of vs ≡ bits_of ws) (λ b. bits_of vs ≡ remove (bits_of ws) b)
  pub len : length vs ≡ length ws

pub record CountsAsks (asks span : ℕ) (r : Option ℕ) (new_asks new_span : ℕ) : Type 0 where
  pub sum : new_asks + new_span ≡ asks + span + (if is_some r then 1 else 0)
  pub shrinks : new_span ≤ span
  pub met : IfNone r (new_span ≡ 0)
  pub stays : span ≡ 0 → (r ≡ None) × (new_asks ≡ asks)

pub record MovesFront (old new : Reach) : Type 0 where
  pub back : new.back ≡ old.back
  pub front : old.front ≤ new.front
  pub within : new.front ≤ new.back

pub record MovesBack (old new : Reach) : Type 0 where
  pub front : new.front ≡ old.front
  pub back : new.back ≤ old.back
  pub within : new.front ≤ new.back
