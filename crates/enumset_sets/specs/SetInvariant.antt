-- What every `EnumSet` guarantees about the value of its representation.
--     IsHeld      the value's members are valid bits, it is a value of the representation, and `of_members` leads from
--         its members back to it
use Rattle.std.specs.Prelude.{◌≡◌, IsTrue}
use Rattle.enumset_repr.specs.BitSet.{BitSet, is_subset}

-- what holds for the value in an `EnumSet` with these valid bits
pub record IsHeld {R : Type 0} (members : R → BitSet) (of_members : BitSet → R) (IsValue : R → Type 0) (valid : BitSet) (repr : R) : Type 0 where
  pub valid_only : IsTrue (is_subset (members repr) valid)
  pub is_value : IsValue repr
  pub inverse : of_members (members repr) ≡ repr
