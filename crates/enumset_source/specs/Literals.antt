-- The numbers of literals.
--     before_type      a literal without its type, which begins with `i` or `u`
--     radix      the radix of a base
--     IsDigit, AreDigits      whether a byte, or each byte, is a digit in a base, or `_`
--     with_digit      a number with one byte more, which is a digit or `_`
--     digits_after, number_in      a number with further digits;  the number of digits in a base
--     base_written      the radix and the digits of a literal without a type, by its prefix
--     number_written      the number of such a literal
--     AreWritten      whether such a literal is an integer: it has a byte after its prefix, and each is a digit or `_`
--     IsFaultOf      whether this is why such a literal has no number
--     IsNumberOf      the number if it is below 2^128, or else `None`
use Rattle.std.specs.Prelude.{◌≡◌, ◌⊎◌, ◌<◌, ◌≤◌, ℕ, ◌+◌, ◌*◌, ◌^◌, ◌==◌, ◌&&◌, ◌||◌, List, [], ◌∷◌, Option, length, slice_index, EachIndex, SomeIff, if◌then◌else◌}
use Rattle.std.specs.Char.{digit_value}
use Rattle.enumset_source.specs.declared.literals.Base.{Base}
use Rattle.enumset_source.specs.declared.literals.Base.TheVariants.{Binary, Octal, Decimal, Hexadecimal}
use Rattle.enumset_source.specs.declared.literals.LiteralFault.{LiteralFault}
use Rattle.enumset_source.specs.declared.literals.LiteralFault.TheVariants.{NotAnInteger, TooLarge}

-- 105 is `i`, and 117 is `u`
abbrev pub before_type : List ℕ → List ℕ
before_type [] = []
before_type (byte ∷ bytes) = if (byte == 105) || (byte == 117) then [] else byte ∷ before_type bytes

abbrev pub radix : Base → ℕ
radix Binary = 2
radix Octal = 8
radix Decimal = 10
radix Hexadecimal = 16

-- 95 is `_`
abbrev pub IsDigit : ℕ → ℕ → Type 0
IsDigit r byte = (byte ≡ 95) ⊎ (digit_value byte < r)

abbrev pub AreDigits : ℕ → List ℕ → Type 0
AreDigits r bytes = EachIndex bytes (λ i. IsDigit r (slice_index bytes i))

abbrev pub with_digit : ℕ → ℕ → ℕ → ℕ
with_digit r n byte = if byte == 95 then n else n * r + digit_value byte

abbrev pub digits_after : ℕ → ℕ → List ℕ → ℕ
digits_after r n [] = n
digits_after r n (byte ∷ bytes) = digits_after r (with_digit r n byte) bytes

abbrev pub number_in : ℕ → List ℕ → ℕ
number_in r bytes = digits_after r 0 bytes

-- 48 is `0`, 120 is `x`, 111 is `o` and 98 is `b`
abbrev pub base_written : List ℕ → ℕ × List ℕ
base_written [] = (10, [])
base_written (a ∷ []) = (10, a ∷ [])
base_written (a ∷ b ∷ bytes) =
    if (a == 48) && (b == 120) then (16, bytes)
    else if (a == 48) && (b == 111) then (8, bytes)
    else if (a == 48) && (b == 98) then (2, bytes)
    else (10, a ∷ b ∷ bytes)

abbrev pub number_written : List ℕ → ℕ
number_written bytes = number_in (base_written bytes).0 (base_written bytes).1

abbrev pub AreWritten : List ℕ → Type 0
AreWritten bytes = (0 < length (base_written bytes).1) × AreDigits (base_written bytes).0 (base_written bytes).1

abbrev pub IsFaultOf : List ℕ → LiteralFault → Type 0
IsFaultOf bytes NotAnInteger = AreWritten bytes → ⊥
IsFaultOf bytes TooLarge = AreWritten bytes × (2 ^ 128 ≤ number_written bytes)

abbrev pub IsNumberOf : ℕ → Option ℕ → Type 0
IsNumberOf n number = SomeIff number (n < 2 ^ 128) n
