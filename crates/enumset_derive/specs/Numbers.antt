-- Which bit a discriminant names.
--     bit_end      one past the greatest bit of a variant
--     variant_limit      the greatest number of variants in an enum
--     same_number      whether two numbers are the same
--     and_then      the next step, unless there is a fault
--     small_bit, bit_of_mask      the bit with this number;  the bit with this mask;  or why there is none
--     bit_of      the bit of a variant, from the map, the width of the store, its place, counted from 0, and its
--         discriminant; or why it has none
--     bit_limit, json_limit      one past the greatest bit in a representation;  in a form of JSON
use Rattle.std.specs.Prelude.{ℕ, ◌-◌, ◌==◌, Bool, false, nat_lt, Option, Some, Result, Ok, Err, if◌then◌else◌}
use Rattle.std.specs.Int.{is_power_of_two, trailing_zeros, w128}
use Rattle.enumset_source.specs.Numbers.{width}
use Rattle.enumset_source.specs.declared.number.Number.{Number}
use Rattle.enumset_source.specs.declared.number.Number.TheVariants.{Natural, Negative}
use Rattle.enumset_source.specs.declared.option_values.Map.{Map}
use Rattle.enumset_source.specs.declared.option_values.Map.TheVariants.{Lsb, Msb, Mask, Compact}
use Rattle.enumset_source.specs.declared.option_values.Representation.{Representation}
use Rattle.enumset_source.specs.declared.option_values.Representation.TheVariants as representation
use Rattle.enumset_source.specs.declared.option_values.Serialized.{Serialized}
use Rattle.enumset_source.specs.declared.option_values.Serialized.TheVariants as serialized
use Rattle.enumset_derive.specs.declared.fault.Reason.{Reason}
use Rattle.enumset_derive.specs.declared.fault.Reason.TheVariants.{PastGreatest, PastRepresentation, NotAMask}

-- the constants of a module list all words of a set
abbrev pub bit_end : ℕ
bit_end = 65536

abbrev pub variant_limit : ℕ
variant_limit = 256

abbrev pub same_number : Number → Number → Bool
same_number (Natural m) (Natural n) = m == n
same_number (Negative m) (Negative n) = m == n
same_number m n = false

abbrev pub and_then : {A B E : Type 0} → Result A E → (A → Result B E) → Result B E
and_then (Ok x) next = next x
and_then (Err fault) next = Err fault

-- a number below `bit_end` is its own bit
abbrev pub small_bit : Number → Result ℕ Reason
small_bit (Natural n) = if nat_lt n bit_end then Ok n else Err PastGreatest
small_bit n = Err PastGreatest

abbrev pub bit_of_mask : Number → Result ℕ Reason
bit_of_mask (Natural n) = if is_power_of_two n then Ok (trailing_zeros w128 n) else Err NotAMask
bit_of_mask (Negative n) = Err NotAMask

abbrev pub bit_of : Map → ℕ → ℕ → Number → Result ℕ Reason
bit_of Lsb w place n = small_bit n
bit_of Msb w place n = and_then (small_bit n) (λ b. if nat_lt b w then Ok (w - 1 - b) else Err (PastRepresentation b w))
bit_of Mask w place n = bit_of_mask n
bit_of Compact w place n = Ok place

abbrev pub bit_limit : Option Representation → ℕ
bit_limit (Some (representation.Integer t)) = width t
bit_limit r = bit_end

abbrev pub json_limit : Option Serialized → ℕ
json_limit (Some (serialized.Bits r)) = bit_limit (Some r)
json_limit s = bit_end
