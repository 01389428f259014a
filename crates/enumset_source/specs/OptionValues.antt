-- The values of options as texts.
--     map_name, representation_name, serialized_name      the text for a map;  for a representation;  for a form of JSON
--     map_names, representation_names, serialized_names      all texts for maps;  for representations;  for forms of JSON
--     is_among      whether a text is one of these texts
use Rattle.std.specs.Prelude.{ℕ, Bool, List, [], ◌∷◌, codes}
use Rattle.std.specs.List.{list_any}
use Rattle.std.specs.Str.{bytes_eq}
use Rattle.enumset_source.specs.declared.option_values.IntegerType.TheVariants.{U8, U16, U32, U64, U128}
use Rattle.enumset_source.specs.declared.option_values.Map.{Map}
use Rattle.enumset_source.specs.declared.option_values.Map.TheVariants.{Lsb, Msb, Mask, Compact}
use Rattle.enumset_source.specs.declared.option_values.Representation.{Representation}
use Rattle.enumset_source.specs.declared.option_values.Representation.TheVariants.{Integer, Words}
use Rattle.enumset_source.specs.declared.option_values.Serialized.{Serialized}
use Rattle.enumset_source.specs.declared.option_values.Serialized.TheVariants as serialized

abbrev pub map_name : Map → List ℕ
map_name Lsb = codes "lsb"
map_name Msb = codes "msb"
map_name Mask = codes "mask"
map_name Compact = codes "compact"

abbrev pub representation_name : Representation → List ℕ
representation_name (Integer U8) = codes "u8"
representation_name (Integer U16) = codes "u16"
representation_name (Integer U32) = codes "u32"
representation_name (Integer U64) = codes "u64"
representation_name (Integer U128) = codes "u128"
representation_name Words = codes "array"

abbrev pub serialized_name : Serialized → List ℕ
serialized_name (serialized.Bits r) = representation_name r
serialized_name serialized.List = codes "list"
serialized_name serialized.Map = codes "map"

abbrev pub map_names : List (List ℕ)
map_names = codes "lsb" ∷ codes "msb" ∷ codes "mask" ∷ codes "compact" ∷ []

abbrev pub representation_names : List (List ℕ)
representation_names = codes "u8" ∷ codes "u16" ∷ codes "u32" ∷ codes "u64" ∷ codes "u128" ∷ codes "array" ∷ []

abbrev pub serialized_names : List (List ℕ)
serialized_names = codes "list" ∷ codes "map" ∷ representation_names

abbrev pub is_among : List ℕ → List (List ℕ) → Bool
is_among text names = list_any (bytes_eq text) names
