-- The text of a set, from the texts of its elements.
--     value_of      the value in a list that has a bit, if there is one
--     text_at      the text of a bit: the text of the value in a list that has this bit
--     separator      what is written before a member: nothing before the first, ` | ` before the others
--     joined_text      the texts of a list, joined by ` | `
-- A text that is not known is `None`, and so is each text that contains it.
use Rattle.std.specs.Prelude.{ℕ, Bool, if◌then◌else◌, ◌==◌, List, [], ◌∷◌, Option, Some, None, codes}
use Rattle.std.specs.Option.{option_and_then}
use Rattle.std.specs.Fmt.{option_append}

abbrev pub value_of : {T : Type 0} → (T → ℕ) → List T → ℕ → Option T
value_of bit [] b = None
value_of bit (v ∷ vs) b = if bit v == b then Some v else value_of bit vs b

abbrev pub text_at : {T : Type 0} → (T → ℕ) → List T → (T → Option (List ℕ)) → ℕ → Option (List ℕ)
text_at bit values text b = option_and_then text (value_of bit values b)

abbrev pub separator : Bool → List ℕ
separator is_first = if is_first then [] else codes " | "

abbrev pub joined_text : List (Option (List ℕ)) → Option (List ℕ)
joined_text [] = Some []
joined_text (t ∷ []) = t
joined_text (t ∷ u ∷ ts) = option_append t (option_append (Some (codes " | ")) (joined_text (u ∷ ts)))
