-- The steps of an iterator that counts its asks.
--     counted      the bounds of `IsCounted` hold for steps of which `CountsAsks` is true
--     listed      such steps are steps of the list of the items left
use Rattle.std.proofs.Common.{◌≡◌, refl, ap, arith}
use Rattle.std.specs.Iterator.{YieldsFirst, YieldsLast, item_count}
use Rattle.enumset_repr.specs.Asks.{IterView, IsCounted}
use Rattle.enumset_repr.specs.Representations.{IsListed}
use Rattle.enumset_array.specs.OneStep.{CountsAsks}

pub counted : IsCounted (λ (i : IterView). i.asks) (λ i. i.span)
    (λ i r j. YieldsFirst (λ (i : IterView). i.items) i r j × CountsAsks i.asks i.span r j.asks j.span)
    (λ i r j. YieldsLast (λ (i : IterView). i.items) i r j × CountsAsks i.asks i.span r j.asks j.span)
    (λ i j. j ≡ i)
counted = record {
  step = λ i r j step. (omega (arith, step.1.sum, step.1.shrinks), omega (arith, step.1.sum));
  step_back = λ i r j step. (omega (arith, step.1.sum, step.1.shrinks), omega (arith, step.1.sum));
  clone = λ i j copy. (ap (λ (k : IterView). k.asks) copy, ap (λ (k : IterView). k.span) copy);
}

pub listed : IsListed (λ (i : IterView). i.items) (λ _. Unit {0}) (λ _. Unit {0})
    (λ i r j. YieldsFirst (λ (i : IterView). i.items) i r j × CountsAsks i.asks i.span r j.asks j.span)
    (λ i r j. YieldsLast (λ (i : IterView). i.items) i r j × CountsAsks i.asks i.span r j.asks j.span)
    (λ _. Unit {0}) (λ i j. j ≡ i) (item_count (λ (i : IterView). i.items))
listed = record {
  can_step = λ _. tt;
  can_step_back = λ _. tt;
  step = λ _ _ _ step. step.0;
  step_back = λ _ _ _ step. step.0;
  can_clone = λ _. tt;
  clone = λ i j copy. ap (λ (k : IterView). k.items) copy;
  left = λ _. refl;
}
