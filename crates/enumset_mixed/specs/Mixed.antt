-- The bits of a mixed set: valid bits, each the bit of a variant, and unknown bits.
--     IsKept      what every `MixedEnumSet` guarantees about the value that it keeps: it is a value of the
--         representation, and `of_members` leads from its members back to it
--     valid_members, unknown_members      the members that are valid bits;  the members that are not
--     bit_with_validity      the bit of an item of the iterator, paired with whether it is valid
--     with_validity      the bits of a list, each paired with whether it is valid
use Rattle.std.specs.Prelude.{◌≡◌, ℕ, Bool, true, false, List, map}
use Rattle.enumset_repr.specs.BitSet.{BitSet, contains, intersection, difference}
use Rattle.enumset_mixed.specs.declared.mixed_value.MixedValue.{MixedValue}
use Rattle.enumset_mixed.specs.declared.mixed_value.MixedValue.TheVariants.{Valid, Invalid}

pub record IsKept {R : Type 0} (members : R → BitSet) (of_members : BitSet → R) (IsValue : R → Type 0) (repr : R) : Type 0 where
  pub is_value : IsValue repr
  pub inverse : of_members (members repr) ≡ repr

-- the first of the two sets is the set of valid bits
abbrev pub valid_members : BitSet → BitSet → BitSet
valid_members valid s = intersection s valid

abbrev pub unknown_members : BitSet → BitSet → BitSet
unknown_members valid s = difference s valid

-- the bit of `Valid v` is the bit of v, and the bit of `Invalid b` is b
abbrev pub bit_with_validity : {T R I : Type 0} → (T → ℕ) → MixedValue T R I → ℕ × Bool
bit_with_validity bit (Valid v) = (bit v, true)
bit_with_validity bit (Invalid b) = (b, false)

abbrev pub with_validity : BitSet → List ℕ → List (ℕ × Bool)
with_validity valid bits = map (λ b. (b, contains valid b)) bits
