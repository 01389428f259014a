-- The tokens of a text, taken from a definition of serde_json that mentions them, since this crate does not depend on
-- the crate that defines them.
use Rattle.std.proofs.Common.{◌≡◌, ℕ, List, ◌∷◌, drop, false}
use Rattle.serde_json.specs.Data.{Data, null}
use Rattle.serde_json.specs.Sent.{start}
use Rattle.serde_json.specs.Written.{IsInOrder, outline}

abbrev pub TypeOf : {A : Type 0} → A → Type 0
TypeOf {A = A} a = A

abbrev pub Tokens : Type 0
Tokens = TypeOf (start false).tokens

abbrev pub Json : Type 0
Json = TypeOf (outline null)

abbrev pub by : (f : List ℕ → Tokens) (g : Json → Tokens) (h : Data → Json → Type 0) → ((text : List ℕ) (d : Data) → IsInOrder text d → (j : Json) × (f text ≡ g j) × h d j) → (List ℕ → Tokens)
by f g h same = f

-- the tokens of a text
abbrev pub tokens : List ℕ → Tokens
tokens = by _ _ _ (λ text d w. w)

-- the tokens of what comes after a value
abbrev pub after_value : List ℕ → Tokens
after_value rest = drop 1 (tokens (49 ∷ 32 ∷ rest))
