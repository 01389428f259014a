-- What the folds say about the items that they took.
--     OnAllItems      a fact about the list of all items that an iterator yields
-- `intersection_all` comes from `enumset_sets`.
use Rattle.std.specs.Prelude.{List, Option}
use Rattle.std.specs.Iterator.{Drains}
pub use Rattle.enumset_sets.specs.Folds.{intersection_all}

-- the calls of `next` yielded the items of a list, and then `None`, and P holds for the list
abbrev pub OnAllItems : {S A : Type 0} → (S → Option A → S → Type 0) → S → (List A → Type 0) → Type 0
OnAllItems {A = A} steps items P = (xs : List A) × Drains steps items xs × P xs
