-- Bytes as texts, each in two hexadecimal digits.
--     digit_of      the value of a letter, if it is a digit
--     bytes_of      the bytes of a text, if it has two digits for each byte
use Rattle.std.specs.Prelude.{ℕ, ◌+◌, ◌-◌, ◌*◌, if◌then◌else◌, List, [], ◌∷◌, Option, Some, None, option_map, option_and_then}
use Rattle.std.specs.Int.{is_in_range}
use Rattle.std.specs.Str.{byte}

abbrev pub digit_of : ℕ → Option ℕ
digit_of letter =
    if is_in_range (byte "0") (byte "9") letter then Some (letter - byte "0")
    else (if is_in_range (byte "a") (byte "f") letter then Some (letter - byte "a" + 10)
    else (if is_in_range (byte "A") (byte "F") letter then Some (letter - byte "A" + 10) else None))

abbrev pub bytes_of : List ℕ → Option (List ℕ)
bytes_of [] = Some []
bytes_of (high ∷ []) = None
bytes_of (high ∷ low ∷ more) =
    option_and_then (λ h. option_and_then (λ l. option_map (λ bytes. (h * 16 + l) ∷ bytes) (bytes_of more)) (digit_of low)) (digit_of high)
