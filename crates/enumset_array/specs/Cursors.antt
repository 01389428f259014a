-- Two cursors over a list of words. The words between them may still have bits.
--     Reach      the words from the one at `front` up to the one before `back`
--     span      the number of words between the cursors
--     Covers      `back` is at most the number of words, and each word not between the cursors is 0
use Rattle.std.specs.Prelude.{◌≡◌, ℕ, ◌-◌, ◌<◌, ◌≤◌, List, length, slice_index}

pub record Reach : Type 0 where
  pub front : ℕ
  pub back : ℕ

abbrev pub span : Reach → ℕ
span c = c.back - c.front

pub record Covers (words : List ℕ) (c : Reach) : Type 0 where
  pub within : c.back ≤ length words
  pub before : (i : ℕ) → i < c.front → slice_index words i ≡ 0
  pub past : (i : ℕ) → c.back ≤ i → slice_index words i ≡ 0
