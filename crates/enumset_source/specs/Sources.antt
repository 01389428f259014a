-- The text of a source, and places in it.
--     has_text      whether a token has this text
--     begins_number, is_number      whether a token of this kind and with this text is a literal that begins with a digit;
--         whether a token is
--     written      the text of tokens, with the spaces before them
--     place_after      the place after a character at a place
--     place_text      the text for a place
use Rattle.std.specs.Prelude.{ℕ, Bool, false, ◌+◌, ◌-◌, ◌^◌, ◌==◌, min, List, [], ◌∷◌, ◌++◌, codes, if◌then◌else◌}
use Rattle.std.specs.Char.{is_ascii_digit}
use Rattle.std.specs.Fmt.{decimal}
use Rattle.std.specs.Str.{bytes_eq}
use Rattle.enumset_source.specs.declared.place.Place.{Place}
use Rattle.enumset_source.specs.declared.tokens.Kind.{Kind}
use Rattle.enumset_source.specs.declared.tokens.Kind.TheVariants.{Literal}
use Rattle.enumset_source.specs.declared.tokens.Token.{Token}

abbrev pub has_text : Token → List ℕ → Bool
has_text t text = bytes_eq t.text.now text

abbrev pub begins_number : Kind → List ℕ → Bool
begins_number Literal (byte ∷ bytes) = is_ascii_digit byte
begins_number kind bytes = false

abbrev pub is_number : Token → Bool
is_number t = begins_number t.kind t.text.now

abbrev pub written : List Token → List ℕ
written [] = []
written (t ∷ ts) = t.space.now ++ t.text.now ++ written ts

-- 10 is the line feed. The number of a line or a column grows up to the greatest `u32`, and then stays as it is
abbrev pub place_after : Place → ℕ → Place
place_after place character =
    if character == 10 then record { line = min (place.line + 1) (2 ^ 32 - 1); column = 1 }
    else record { line = place.line; column = min (place.column + 1) (2 ^ 32 - 1) }

abbrev pub place_text : Place → List ℕ
place_text place = codes "line " ++ decimal place.line ++ codes ", column " ++ decimal place.column
