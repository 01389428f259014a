-- JSON values as sets, and the fault of a value that is not a set.
--     width_of      how many bits a width has
--     and_then      the next step with what was read, or the fault
--     whole_number      the whole number from 0 to 2 ^ 64 - 1 that a value holds, or the fault
--     number_below      the number of a value, or the fault:  `OutOfRange` if the number is not below 2 ^ width
--     unless_fault      a result, or the fault at an index if there is one
--     values_of      the elements of an array
--     held_word, held_words      the word that an element holds, if it holds one;  the words of all elements, with 0
--         for an element that holds none
--     is_no_word      the test that finds a fault: whether an element does not hold a word
--     words_among, words_in      the words that the values of a list hold, or the fault;  the words that the elements
--         of an array hold, or the fault
--     accepted      the set of valid bits that a reader keeps of a set, or the fault
--     kept_below      the set of bits below a width that a reader keeps of a set, or the fault
--     set_of_number, mixed_set_of_number, set_of_words, mixed_set_of_words      the set that a value is read as, or the
--         fault
--     number_value, words_value      the values that a number and words are written as
use Rattle.std.specs.Prelude.{ℕ, Bool, ◌^◌, List, [], ◌∷◌, map, nat_lt, position, Option, Some, None, is_none, unwrap_or, ok_or, option_and_then, Result, Ok, Err, if◌then◌else◌}
use Rattle.enumset_repr.specs.BitSet.{BitSet, intersection, is_subset, below, low}
use Rattle.enumset_repr.specs.Number.{bits}
use Rattle.enumset_repr.specs.Words.{bits_of}
use Rattle.serde_json.specs.Data.{Data, null, boolean, number, string, array, object, Items, no_items, item, unsigned, negative, float}
use Rattle.serde_json.specs.Find.{as_number, as_u64, as_array}
use Rattle.serde_json.specs.View.{items_of}
use Rattle.enumset.specs.declared.set_json.width.JsonWidth.{JsonWidth}
use Rattle.enumset.specs.declared.set_json.width.JsonWidth.TheVariants.{U8, U16, U32, U64}
use Rattle.enumset.specs.declared.set_json.unknown.Unknown.{Unknown}
use Rattle.enumset.specs.declared.set_json.unknown.Unknown.TheVariants.{Drop, Refuse}
use Rattle.enumset.specs.declared.set_json.fault.JsonFault.{JsonFault}
use Rattle.enumset.specs.declared.set_json.fault.JsonFault.TheVariants.{NotANumber, NotWhole, OutOfRange, NotAnArray, NotAWord, UnknownBits}

abbrev pub width_of : JsonWidth → ℕ
width_of U8 = 8
width_of U16 = 16
width_of U32 = 32
width_of U64 = 64

-- ---- what is read

abbrev pub and_then : {A B : Type 0} → Result A JsonFault → (A → Result B JsonFault) → Result B JsonFault
and_then (Ok read) next = next read
and_then (Err fault) next = Err fault

abbrev pub whole_number : Data → Result ℕ JsonFault
whole_number (number (unsigned n)) = Ok n
whole_number (number (negative z)) = Err NotWhole
whole_number (number (float x)) = Err NotWhole
whole_number null = Err NotANumber
whole_number (boolean b) = Err NotANumber
whole_number (string s) = Err NotANumber
whole_number (array items) = Err NotANumber
whole_number (object ms) = Err NotANumber

abbrev pub number_below : ℕ → Data → Result ℕ JsonFault
number_below width value = and_then (whole_number value) (λ n. if nat_lt n (2 ^ width) then Ok n else Err OutOfRange)

-- what `as_u64` returns
abbrev pub held_word : Data → Option ℕ
held_word value = option_and_then as_u64 (as_number value)

abbrev pub is_no_word : Data → Bool
is_no_word value = is_none (held_word value)

abbrev pub held_words : List Data → List ℕ
held_words values = map (λ value. unwrap_or (held_word value) 0) values

abbrev pub values_of : Items → List Data
values_of no_items = []
values_of (item value items) = value ∷ values_of items

-- a result, or the fault at an index if there is one
abbrev pub unless_fault : {A : Type 0} → (ℕ → JsonFault) → Option ℕ → Result A JsonFault → Result A JsonFault
unless_fault fault None result = result
unless_fault fault (Some place) result = Err (fault place)

abbrev pub words_among : List Data → Result (List ℕ) JsonFault
words_among values = unless_fault NotAWord (position is_no_word values) (Ok (held_words values))

abbrev pub words_in : Data → Result (List ℕ) JsonFault
words_in value = and_then (ok_or (as_array value) NotAnArray) (λ items. words_among (values_of items))

-- bits that are not valid are dropped, or refused
abbrev pub accepted : BitSet → Unknown → BitSet → Result BitSet JsonFault
accepted valid Drop s = Ok (intersection s valid)
accepted valid Refuse s = if is_subset s valid then Ok s else Err UnknownBits

abbrev pub set_of_number : BitSet → ℕ → Unknown → Data → Result BitSet JsonFault
set_of_number valid width unknown value = and_then (number_below width value) (λ n. accepted valid unknown (bits n))

abbrev pub set_of_words : BitSet → Unknown → Data → Result BitSet JsonFault
set_of_words valid unknown value = and_then (words_in value) (λ ns. accepted valid unknown (bits_of ns))

abbrev pub mixed_set_of_number : ℕ → Data → Result BitSet JsonFault
mixed_set_of_number width value = and_then (number_below width value) (λ n. Ok (bits n))

-- bits at and past the width are dropped, or refused
abbrev pub kept_below : ℕ → Unknown → BitSet → Result BitSet JsonFault
kept_below width Drop s = Ok (low s width)
kept_below width Refuse s = if is_subset s (below width) then Ok s else Err OutOfRange

abbrev pub mixed_set_of_words : ℕ → Unknown → Data → Result BitSet JsonFault
mixed_set_of_words width past value = and_then (words_in value) (λ ns. kept_below width past (bits_of ns))

-- ---- what is written

abbrev pub number_value : ℕ → Data
number_value n = number (unsigned n)

abbrev pub words_value : List ℕ → Data
words_value ns = array (items_of (map number_value ns))
