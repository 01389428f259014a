-- What a proof knows of a match over bits if no arm was taken.
--     IsNoneOf      a number is not in a list
use Rattle.std.specs.Prelude.{◌≡◌, ℕ, List, [], ◌∷◌}

abbrev pub IsNoneOf : ℕ → List ℕ → Type 0
IsNoneOf q [] = Unit {0}
IsNoneOf q (b ∷ bs) = (q ≡ b → ⊥) × IsNoneOf q bs
