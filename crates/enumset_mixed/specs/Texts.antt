-- The text of a mixed set.
--     unknown_text      the text of an unknown bit: its number in brackets
--     item_text      the text of an item of the iterator, from the texts of elements
--     text_with_validity      the text of a bit that is paired with whether it is valid, from the texts of valid bits
use Rattle.std.specs.Prelude.{ℕ, Bool, true, false, List, ◌++◌, Option, Some, codes}
use Rattle.std.specs.Fmt.{decimal}
use Rattle.enumset_mixed.specs.declared.mixed_value.MixedValue.{MixedValue}
use Rattle.enumset_mixed.specs.declared.mixed_value.MixedValue.TheVariants.{Valid, Invalid}

abbrev pub unknown_text : ℕ → List ℕ
unknown_text b = codes "[" ++ (decimal b ++ codes "]")

abbrev pub item_text : {T R I : Type 0} → (T → Option (List ℕ)) → MixedValue T R I → Option (List ℕ)
item_text text (Valid v) = text v
item_text text (Invalid b) = Some (unknown_text b)

abbrev pub text_with_validity : (ℕ → Option (List ℕ)) → ℕ × Bool → Option (List ℕ)
text_with_validity text (b, true) = text b
text_with_validity text (b, false) = Some (unknown_text b)
