-- Asks: counted reads of a word.
--     IterView      what contracts see of an iterator over the members of a set: the items left, the number of asks so
--         far, and the span, which is the number of asks that may still be needed beyond one for each item
--     BoundsAsks      a step never lowers the count of asks, and raises the sum of asks and span by at most one if it
--         yields an item, and not at all otherwise
--     IsCounted      each step from either end is within these bounds, and a clone has the same asks and span
--     IsFresh      an iterator has all items of a list left, has made no ask, and its span is at most a given number of
--         words
use Rattle.std.specs.Prelude.{◌≡◌, ℕ, ◌+◌, ◌≤◌, List, Option, is_some, if◌then◌else◌}

pub record IterView : Type 0 where
  pub items : List ℕ
  pub asks : ℕ
  pub span : ℕ

abbrev pub BoundsAsks : {A : Type 0} → ℕ → ℕ → Option A → ℕ → ℕ → Type 0
BoundsAsks asks span r new_asks new_span =
    (asks ≤ new_asks) × (new_asks + new_span ≤ asks + span + (if is_some r then 1 else 0))

pub record IsCounted {I : Type 0} (asks span : I → ℕ) (gives gives_back : I → Option ℕ → I → Type 0) (is_clone : I → I → Type 0) : Type 0 where
  pub step : (i : I) (r : Option ℕ) (j : I) → gives i r j → BoundsAsks (asks i) (span i) r (asks j) (span j)
  pub step_back : (i : I) (r : Option ℕ) (j : I) → gives_back i r j → BoundsAsks (asks i) (span i) r (asks j) (span j)
  pub clone : (i j : I) → is_clone i j → (asks j ≡ asks i) × (span j ≡ span i)

pub record IsFresh (all : List ℕ) (words : ℕ) (i : IterView) : Type 0 where
  pub items : i.items ≡ all
  pub asks : i.asks ≡ 0
  pub span : i.span ≤ words
