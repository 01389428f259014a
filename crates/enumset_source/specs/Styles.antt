-- The styles in which `serde` spells the names of variants, as its page on `rename_all` lists them.
--     style_name, style_names      the text for a style;  all of these texts
--     separator      what stands before a byte at a place in a name: `_` or `-` before each capital but the first byte
--     letter      what a byte at a place becomes: a small letter, a capital, or itself
--     after_separator      bytes after a separator, if there is one
--     styled_from, styled      the bytes of a name from a place on, in a style;  all of them
use Rattle.std.specs.Prelude.{ℕ, ◌+◌, ◌==◌, ◌&&◌, nat_lt, List, [], ◌∷◌, ◌++◌, codes, Option, Some, None, if◌then◌else◌}
use Rattle.std.specs.Char.{is_ascii_uppercase, to_ascii_lowercase, to_ascii_uppercase}
use Rattle.enumset_source.specs.declared.styles.Style.{Style}
use Rattle.enumset_source.specs.declared.styles.Style.TheVariants.{Lower, Upper, Pascal, Camel, Snake, ScreamingSnake, Kebab, ScreamingKebab}

abbrev pub style_name : Style → List ℕ
style_name Lower = codes "lowercase"
style_name Upper = codes "UPPERCASE"
style_name Pascal = codes "PascalCase"
style_name Camel = codes "camelCase"
style_name Snake = codes "snake_case"
style_name ScreamingSnake = codes "SCREAMING_SNAKE_CASE"
style_name Kebab = codes "kebab-case"
style_name ScreamingKebab = codes "SCREAMING-KEBAB-CASE"

abbrev pub style_names : List (List ℕ)
style_names =
    codes "lowercase" ∷ codes "UPPERCASE" ∷ codes "PascalCase" ∷ codes "camelCase" ∷ codes "snake_case"
    ∷ codes "SCREAMING_SNAKE_CASE" ∷ codes "kebab-case" ∷ codes "SCREAMING-KEBAB-CASE" ∷ []

-- 95 is `_`, and 45 is `-`
abbrev pub separator : Style → ℕ → ℕ → Option ℕ
separator Snake place byte = if nat_lt 0 place && is_ascii_uppercase byte then Some 95 else None
separator ScreamingSnake place byte = if nat_lt 0 place && is_ascii_uppercase byte then Some 95 else None
separator Kebab place byte = if nat_lt 0 place && is_ascii_uppercase byte then Some 45 else None
separator ScreamingKebab place byte = if nat_lt 0 place && is_ascii_uppercase byte then Some 45 else None
separator style place byte = None

abbrev pub letter : Style → ℕ → ℕ → ℕ
letter Lower place byte = to_ascii_lowercase byte
letter Upper place byte = to_ascii_uppercase byte
letter Pascal place byte = byte
letter Camel place byte = if place == 0 then to_ascii_lowercase byte else byte
letter Snake place byte = to_ascii_lowercase byte
letter ScreamingSnake place byte = to_ascii_uppercase byte
letter Kebab place byte = if byte == 95 then 45 else to_ascii_lowercase byte
letter ScreamingKebab place byte = if byte == 95 then 45 else to_ascii_uppercase byte

abbrev pub after_separator : Option ℕ → List ℕ → List ℕ
after_separator None bytes = bytes
after_separator (Some s) bytes = s ∷ bytes

abbrev pub styled_from : Style → ℕ → List ℕ → List ℕ
styled_from style place [] = []
styled_from style place (byte ∷ bytes) =
    after_separator (separator style place byte) (letter style place byte ∷ styled_from style (place + 1) bytes)

abbrev pub styled : Style → List ℕ → List ℕ
styled style name = styled_from style 0 name
