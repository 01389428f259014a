use Rattle.std.proofs.Common.{Option, ℕ, refl}
use Rattle.enumset_array.specs.declared.traversal.End.TheVariants.{Front, Back}
use Rattle.enumset.proofs.AskedSteps.{first_by, last_by, stepped}
use Rattle.enumset.proofs.laws.asks.step.Goals as goal

pub returns-in-Front : goal.returns-in-Front
returns-in-Front g c =
    let done = stepped g.T.EnumSetType.elements.bit (λ (r : Option ℕ). r) (λ _. refl) _ Front _ _ _ _ _ _ _ c.in-Front.is (first_by g.T.EnumSetType.elements.bit _ _ _ c.next.ensures.steps.0) c.next.ensures.steps.1 in
    record { answer = done.0; items = done.1; asks = done.2 }

pub returns-in-Back : goal.returns-in-Back
returns-in-Back g c =
    let done = stepped g.T.EnumSetType.elements.bit (λ (r : Option ℕ). r) (λ _. refl) _ Back _ _ _ _ _ _ _ c.in-Back.is (last_by g.T.EnumSetType.elements.bit _ _ _ c.next_back.ensures.steps.0) c.next_back.ensures.steps.1 in
    record { answer = done.0; items = done.1; asks = done.2 }
