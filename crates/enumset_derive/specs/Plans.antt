-- What a plan satisfies.
--     IsPlanned      the plan has the enum's variants, with their bits and their discriminants
--     without_fields      an enum of n variants without fields
--     IsLawfulStore, IsLawfulPlan      bits in a store, or a plan, pass the test that proves the laws of an element type
--     kind_of      what a set is stored in: as `repr` asks, or else the smallest integer with n bits, or words
--     IsStore, IsStoredAsAsked      a store is of this kind, for n bits;  a plan's store is as `repr` asks
use Rattle.std.specs.Prelude.{◌≡◌, ℕ, ◌≤◌, nat_le, List, [], length, replicate, Option, Some, None, if◌then◌else◌}
use Rattle.std.specs.Int.{div_ceil}
use denote.Enum.Enum.{Sum}
use denote.Enum.Declared.{Declared, rowss}
use Rattle.enumset_repr.specs.Lawful.{IsLawfulNumber, IsLawfulWords}
use Rattle.enumset_source.specs.Numbers.{width}
use Rattle.enumset_source.specs.declared.option_values.IntegerType.TheVariants.{U8, U16, U32, U64, U128}
use Rattle.enumset_source.specs.declared.option_values.Representation.{Representation}
use Rattle.enumset_source.specs.declared.option_values.Representation.TheVariants.{Integer, Words}
use Rattle.enumset_derive.specs.Variants.{named_variants, plan_faults, bits_of}
use Rattle.enumset_derive.specs.declared.plan.declaration.EnumDeclaration.{EnumDeclaration}
use Rattle.enumset_derive.specs.declared.plan.Plan.{Plan}
use Rattle.enumset_derive.specs.declared.plan.Store.{Store}
use Rattle.enumset_derive.specs.declared.plan.Store.TheVariants as store

-- the enum has no fault, and the plan has the variants with their bits and their discriminants
abbrev pub IsPlanned : EnumDeclaration → Plan → Type 0
IsPlanned d plan = (plan_faults d ≡ []) × ((named_variants d).0 ≡ plan.variants.items)

-- an enum of n variants without fields: the value of each variant is its place
abbrev pub without_fields : ℕ → Declared
without_fields n = record {
  name = [];
  args = [];
  types = [];
  parts = replicate n [];
  D = Sum (rowss (replicate n []));
  to = λ v. v;
  to_one = λ v w same. same;
}

-- for an enum of n variants without fields, the test with which `lawful_in_integer` and `lawful_in_words` prove the laws
-- of an element type
abbrev pub IsLawfulStore : ℕ → List ℕ → Store → ℕ → Type 0
IsLawfulStore n bs (store.Integer t all) width = IsLawfulNumber (without_fields n) bs all width n
IsLawfulStore n bs (store.Words all) width = IsLawfulWords (without_fields n) bs all.items width n

abbrev pub IsLawfulPlan : ℕ → Plan → Type 0
IsLawfulPlan n plan = IsLawfulStore n (bits_of plan.variants.items) plan.store plan.bit_width

abbrev pub kind_of : Option Representation → ℕ → Representation
kind_of (Some r) n = r
kind_of None n =
    if nat_le n 8 then Integer U8
    else if nat_le n 16 then Integer U16
    else if nat_le n 32 then Integer U32
    else if nat_le n 64 then Integer U64
    else if nat_le n 128 then Integer U128
    else Words

-- as many words as n bits need
abbrev pub IsStore : Representation → ℕ → Store → Type 0
IsStore (Integer t) n (store.Integer u all) = (u ≡ t) × (n ≤ width t)
IsStore Words n (store.Words all) = length all.items ≡ div_ceil n 64
IsStore r n s = ⊥

abbrev pub IsStoredAsAsked : Option Representation → Plan → Type 0
IsStoredAsAsked r plan = IsStore (kind_of r plan.bit_width) plan.bit_width plan.store
