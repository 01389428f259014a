-- Runs of words that are 0.
use Rattle.std.proofs.Common.{◌≡◌, ◌<◌, ◌≤◌, ◌↔◌, ℕ, ◌+◌, bit_or, ◌∙◌, arith}
use Rattle.std.proofs.lemmas.Nat.{le_or_l, le_or_r}

-- each number from one place up to another, without the latter, is 0
abbrev pub NoneIn : (ℕ → ℕ) → ℕ → ℕ → Type 0
NoneIn f from to = (w : ℕ) → from ≤ w → w < to → f w ≡ 0

or_zero : (x y : ℕ) → bit_or x y ≡ 0 → (x ≡ 0) × (y ≡ 0)
or_zero x y none = (omega (arith, none, le_or_l x y), omega (arith, none, le_or_r x y))

-- words that are 0 up to a place i, and at this place, are 0 up to place i + 1
pub one_more : (f : ℕ → ℕ) (from i any x : ℕ) → from ≤ i → x ≡ f i → (any ≡ 0) ↔ NoneIn f from i → (bit_or any x ≡ 0) ↔ NoneIn f from (i + 1)
one_more f from i any x start is before = (
  λ none w h k. let parts = or_zero any x none in let earlier = before.0 parts.0 w h in grind arith,
  λ none.
      let old : any ≡ 0 = before.1 (λ w h k. none w h (omega (arith, k))) in
      let new : x ≡ 0 = is ∙ none i start (omega arith) in
      (λ j. bit_or (old j) (new j)),
)
