-- Iterators whose steps bound their asks.
--     steps_by      steps from the front that bound their asks, where each bit is seen in another form
--     of_bits      an iterator yields the items whose bits are left
--     of_shown      an iterator yields the items left, where each bit is seen in another form
use Rattle.std.proofs.Common.{◌≡◌, ℕ, List, Option, ap, subst, length}
use Rattle.std.proofs.lemmas.Iterator.{YieldsList}
use Rattle.std.proofs.lemmas.Iterator.Consumers.{YieldsList-from_shown}
use Rattle.std.specs.Iterator.{YieldsFirstBy}
use Rattle.enumset_repr.specs.Asks.{IterView, BoundsAsks}

abbrev pub steps_by : {A B : Type 0} → (A → B) → (List ℕ → List B) → IterView → Option A → IterView → Type 0
steps_by view shown i r j = YieldsFirstBy view (λ (k : IterView). shown k.items) i r j × BoundsAsks i.asks i.span r j.asks j.span

pub of_shown : {A B : Type 0} (view : A → B) (shown : List ℕ → List B) (i : IterView) (xs : List B) → shown i.items ≡ xs → YieldsList (steps_by view shown) view i xs
of_shown view shown i xs e =
    subst (YieldsList (steps_by view shown) view i) e
    (YieldsList-from_shown (steps_by view shown) view (λ k. shown k.items) (λ j k step. ap length step.0.0) (λ j x k step. step.0) i)

pub of_bits : {A : Type 0} (bit : A → ℕ) (i : IterView) (xs : List ℕ) → i.items ≡ xs → YieldsList (steps_by bit (λ bits. bits)) bit i xs
of_bits bit i xs e = of_shown bit (λ bits. bits) i xs e
