-- The numbers of discriminants and of integer types.
--     width      the number of bits of an integer type
--     value_of      the value of a discriminant
--     signed_number      the number after a minus sign, or without one
--     next_number      one more than a number, unless this is 2^128
use Rattle.std.specs.Prelude.{ℕ, ◌+◌, ◌-◌, ◌^◌, ◌==◌, ℤ, pos, neg_ℤ, Bool, not, ◌&&◌, nat_lt, nat_le, Option, Some, None, if◌then◌else◌}
use Rattle.enumset_source.specs.declared.option_values.IntegerType.{IntegerType}
use Rattle.enumset_source.specs.declared.option_values.IntegerType.TheVariants.{U8, U16, U32, U64, U128}
use Rattle.enumset_source.specs.declared.number.Number.{Number}
use Rattle.enumset_source.specs.declared.number.Number.TheVariants.{Natural, Negative}

abbrev pub width : IntegerType → ℕ
width U8 = 8
width U16 = 16
width U32 = 32
width U64 = 64
width U128 = 128

abbrev pub value_of : Number → ℤ
value_of (Natural n) = pos n
value_of (Negative n) = neg_ℤ (pos n)

-- zero has no sign
abbrev pub signed_number : Bool → ℕ → Number
signed_number has_minus n = if has_minus && not (n == 0) then Negative n else Natural n

abbrev pub next_number : Number → Option Number
next_number (Natural n) = if nat_lt (n + 1) (2 ^ 128) then Some (Natural (n + 1)) else None
next_number (Negative n) = if nat_le n 1 then Some (Natural 0) else Some (Negative (n - 1))
