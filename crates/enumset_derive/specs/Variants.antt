-- The variants of an enum, each with its bit, and their faults.
--     fault_at      a reason as a fault at a place
--     with_some      a list with one more item at its end, if there is one
--     has_taken, taken_fault      whether a variant has a bit or a discriminant;  the fault of a later variant with it
--     the_map, map_of      the map: `msb` only if `repr` is an integer
--     repr_fault, json_fault      the fault of a bit past `repr`;  past `serialize_repr`
--     given_or, discriminant_of, discriminant_after      the discriminant of a variant, given or implied;  the implied one
--         after another
--     has_name, name_fault      whether two variants have the same name;  the fault of a variant with an earlier name
--     place_or, number_place      the place of a variant's discriminant, or else of the variant
--     without_bit, with_bit, with_bit_of, numbered_plan, variant_plan      a variant with its bit and its faults
--     with_faults      faults, and those of one more variant
--     named_after, named_variants      variants after others, or all of an enum: those with a bit of their own, and all
--         faults
--     map_fault, plan_faults      the fault of a map that needs an integer but does not have one;  all faults of an enum
--     bits_of      the bits of variants
--     of_token_error      an error of the tokens as one of the program
use Rattle.std.specs.Prelude.{ℕ, ◌==◌, Bool, ◌||◌, nat_le, nat_lt, nat_eq, List, [], ◌∷◌, ◌++◌, length, map, Option, Some, None, Result, Ok, Err, if◌then◌else◌}
use Rattle.std.specs.List.{find}
use Rattle.std.specs.Option.{option_map, option_map_or}
use Rattle.std.specs.Cmp.Lexicographic.{pointwise}
use Rattle.enumset_source.specs.Numbers.{next_number}
use Rattle.enumset_source.specs.declared.place.Place.{Place}
use Rattle.enumset_source.specs.declared.token_error.TokenError.{TokenError}
use Rattle.enumset_source.specs.declared.token_error.TokenError.TheVariants as token_error
use Rattle.enumset_source.specs.declared.number.Number.{Number}
use Rattle.enumset_source.specs.declared.number.Number.TheVariants.{Natural}
use Rattle.enumset_source.specs.declared.option_values.Map.{Map}
use Rattle.enumset_source.specs.declared.option_values.Map.TheVariants.{Lsb, Msb}
use Rattle.enumset_source.specs.declared.option_values.Representation.{Representation}
use Rattle.enumset_source.specs.declared.option_values.Representation.TheVariants as representation
use Rattle.enumset_derive.specs.Numbers.{variant_limit, same_number, bit_of, bit_limit, json_limit}
use Rattle.enumset_derive.specs.declared.plan.declaration.Discriminant.{Discriminant}
use Rattle.enumset_derive.specs.declared.plan.declaration.Discriminant.TheVariants as discriminant
use Rattle.enumset_derive.specs.declared.plan.declaration.Variant.{Variant}
use Rattle.enumset_derive.specs.declared.plan.declaration.EnumDeclaration.{EnumDeclaration}
use Rattle.enumset_derive.specs.declared.plan.declaration.Options.{Options}
use Rattle.enumset_derive.specs.declared.plan.variants.Implied.{Implied}
use Rattle.enumset_derive.specs.declared.plan.variants.Implied.TheVariants as implied
use Rattle.enumset_derive.specs.declared.plan.variants.VariantPlan.{VariantPlan}
use Rattle.enumset_derive.specs.declared.plan.NamedVariant.{NamedVariant}
use Rattle.enumset_derive.specs.declared.fault.Fault.{Fault}
use Rattle.enumset_derive.specs.declared.fault.DeriveError.{DeriveError}
use Rattle.enumset_derive.specs.declared.fault.DeriveError.TheVariants as error
use Rattle.enumset_derive.specs.declared.fault.Reason.{Reason}
use Rattle.enumset_derive.specs.declared.fault.Reason.TheVariants.{Text, IntegerMissing, TooManyVariants, NameTwice, ImpliedTooLarge, PastRepresentation, PastSerialized, BitTwice, DiscriminantTwice}

abbrev pub fault_at : Place → Reason → Fault
fault_at place reason = record { place = place; reason = reason }

abbrev pub with_some : {A : Type 0} → List A → Option A → List A
with_some items None = items
with_some items (Some item) = items ++ item ∷ []

-- ---- one variant, after earlier variants with their bits

-- the first variant with this bit or this discriminant has taken it
abbrev pub has_taken : ℕ → Number → NamedVariant → Bool
has_taken b n m = (b == m.bit) || same_number n m.number

abbrev pub taken_fault : ℕ → NamedVariant → Reason
taken_fault b m = if b == m.bit then BitTwice m.place else DiscriminantTwice m.place

abbrev pub the_map : Option (Map × Place) → Option Representation → Map
the_map (Some (Msb, place)) (Some (representation.Integer t)) = Msb
the_map (Some (Msb, place)) r = Lsb
the_map (Some m) r = m.0
the_map None r = Lsb

abbrev pub map_of : Options → Map
map_of o = the_map o.map o.representation

-- a bit past `repr`, or past `serialize_repr`
abbrev pub repr_fault : Options → ℕ → Option Reason
repr_fault o b = if nat_lt b (bit_limit o.representation) then None else Some (PastRepresentation b (bit_limit o.representation))

abbrev pub json_fault : Options → ℕ → Option Reason
json_fault o b = if nat_lt b (json_limit o.serialized) then None else Some (PastSerialized b (json_limit o.serialized))

abbrev pub given_or : Discriminant → Implied → Implied
given_or discriminant.Implied n = n
given_or (discriminant.Given d) n = implied.Number d.number
given_or discriminant.Unread n = implied.Unknown

abbrev pub discriminant_of : Variant → Implied → Implied
discriminant_of v n = given_or v.discriminant n

abbrev pub discriminant_after : Implied → Implied
discriminant_after (implied.Number n) = option_map_or (λ m. implied.Number m) (next_number n) implied.TooLarge
discriminant_after implied.TooLarge = implied.Unknown
discriminant_after implied.Unknown = implied.Unknown

abbrev pub has_name : Variant → Variant → Bool
has_name v w = pointwise nat_eq w.name.now v.name.now

abbrev pub name_fault : List Variant → Variant → Option Fault
name_fault earlier v = option_map (λ w. fault_at v.place (NameTwice w.place)) (find (has_name v) earlier)

abbrev pub place_or : Discriminant → Place → Place
place_or (discriminant.Given d) place = d.place
place_or d place = place

abbrev pub number_place : Variant → Place
number_place v = place_or v.discriminant v.place

abbrev pub without_bit : Option Fault → VariantPlan
without_bit fault = record { variant = None; bit_fault = fault; repr_fault = None; json_fault = None }

-- a variant with this bit, after the first variant that has taken it, if there is one
abbrev pub with_bit : Options → Place → Number → ℕ → Option NamedVariant → VariantPlan
with_bit o at n b taken = record {
  variant = option_map_or (λ m. None) taken (Some (record { bit = b; number = n; place = at }));
  bit_fault = option_map (λ m. fault_at at (taken_fault b m)) taken;
  repr_fault = option_map (fault_at at) (repr_fault o b);
  json_fault = option_map (fault_at at) (json_fault o b);
}

-- a variant with the bit of its discriminant, or without one
abbrev pub with_bit_of : Options → Place → Number → List NamedVariant → Result ℕ Reason → VariantPlan
with_bit_of o at n named (Ok b) = with_bit o at n b (find (has_taken b n) named)
with_bit_of o at n named (Err reason) = without_bit (Some (fault_at at reason))

-- at a place after other variants
abbrev pub numbered_plan : Options → ℕ → List NamedVariant → Implied → Variant → VariantPlan
numbered_plan o place named (implied.Number n) v =
    with_bit_of o (number_place v) n named (bit_of (map_of o) (bit_limit o.representation) place n)
numbered_plan o place named implied.TooLarge v = without_bit (Some (fault_at v.place ImpliedTooLarge))
numbered_plan o place named implied.Unknown v = without_bit None

abbrev pub variant_plan : Options → ℕ → List NamedVariant → Implied → Variant → VariantPlan
variant_plan o place named n v =
    if nat_le variant_limit place then without_bit (Some (fault_at v.place TooManyVariants))
    else numbered_plan o place named n v

abbrev pub with_faults : List Fault → VariantPlan → List Fault
with_faults faults plan = with_some (with_some (with_some faults plan.bit_fault) plan.repr_fault) plan.json_fault

-- ---- all variants

-- the first variant has the implied discriminant 0, and each later one 1 more than the one before
abbrev pub named_after : Options → List Variant → List NamedVariant → List Fault → Implied → List Variant → List NamedVariant × List Fault
named_after o earlier named faults n [] = (named, faults)
named_after o earlier named faults n (v ∷ vs) =
    let number = discriminant_of v n in
    let plan = variant_plan o (length earlier) named number v in
    named_after o (earlier ++ v ∷ []) (with_some named plan.variant) (with_faults (with_some faults (name_fault earlier v)) plan) (discriminant_after number) vs

abbrev pub named_variants : EnumDeclaration → List NamedVariant × List Fault
named_variants d = named_after d.options [] [] [] (implied.Number (Natural 0)) d.variants.items

-- `msb` needs `repr` to be an integer
abbrev pub map_fault : Option (Map × Place) → Option Representation → Option Fault
map_fault (Some (Msb, place)) (Some (representation.Integer t)) = None
map_fault (Some (Msb, place)) r = Some (fault_at place IntegerMissing)
map_fault m r = None

abbrev pub plan_faults : EnumDeclaration → List Fault
plan_faults d = with_some (named_variants d).1 (map_fault d.options.map d.options.representation)

abbrev pub bits_of : List NamedVariant → List ℕ
bits_of named = map (λ n. n.bit) named

abbrev pub of_token_error : TokenError → DeriveError
of_token_error (token_error.Fault place text) = error.Fault (fault_at place (Text text))
of_token_error (token_error.OutOfMemory refused) = error.OutOfMemory refused
