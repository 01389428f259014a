-- What an element type says about its values and their bits, with its laws.
--     Elements      the bit of each value, and the list of the variants' bits
--     valid_bits      the set of the variants' bits
--     listed_bit, place      the bit of a variant of an enum without fields: the one at the variant's place in a list;
--         the variant's place itself
--     with_bits, in_place      the elements of an enum whose bits are listed;  of one whose bits are the variants'
--         places
--     in_order      the elements of `in_place`, where the bit of a variant is looked up in the list 0, 1, 2 and so on
--     one_past      one past a number, or 0 if there is none
--     one_past_greatest      one past the greatest member, or 0 for the empty set
--     IsWidthOf, IsCountOf      whether a number is one past the greatest member of a set;  whether it is the number of
--         members
--     IsElementType      the laws of an element type
--     AreBitsOf      each number of a list is in the list of the variants' bits
--     AreLeft      the numbers of a list ascend, and each is in the list of the variants' bits
-- The toolchain's logic defines `tag_of D v`, the place of v's variant in the declaration, counted from 0, and
-- `rowss D.parts`, the list of the variants. A search does not unfold `valid_bits`, `listed_bit` and `place`: it would
-- try each bit of the list, and each variant that a variable can be. `Laws/Elements.antt` has their laws.
use Rattle.std.specs.Prelude.{◌≡◌, ◌↔◌, ℕ, suc, Bool, List, Option, Some, None, length, slice_index, IsTrue}
use Rattle.std.specs.List.{list_all, range_with_len}
use denote.Enum.Declared.{Declared, rowss, tag_of}
use Rattle.enumset_repr.specs.BitSet.{BitSet, is_in, contains, from_list, len}
use Rattle.enumset_repr.specs.Ends.{greatest}
use Rattle.enumset_repr.specs.Laws.Ascending.{AscendsFrom}
use Rattle.enumset_repr.specs.Number.{is_distinct}

-- the bit of each value, and the list of the valid bits, one for each variant
pub record Elements (T : Type 0) : Type 0 where
  pub bit : T → ℕ
  pub bit_list : List ℕ

-- the valid bits as a set
unfoldable pub valid_bits : {T : Type 0} → Elements T → BitSet
valid_bits elements = from_list elements.bit_list

-- the bit at the variant's place in the list: the first variant of the declaration has the first bit, and so on
unfoldable pub listed_bit : (D : Declared) → List ℕ → D.D → ℕ
listed_bit D bs v = slice_index bs (tag_of D v)

abbrev pub with_bits : (D : Declared) → List ℕ → Elements D.D
with_bits D bs = record { bit = λ v. listed_bit D bs v; bit_list = bs }

-- the bits 0, 1, 2 and so on, one for each variant
abbrev pub in_order : (D : Declared) → Elements D.D
in_order D = with_bits D (range_with_len 0 (length (rowss D.parts)))

-- the bit of a variant that is its place in the declaration, so that a proof about `self as u32` needs no list
unfoldable pub place : (D : Declared) → D.D → ℕ
place D v = tag_of D v

abbrev pub in_place : (D : Declared) → Elements D.D
in_place D = record { bit = λ v. place D v; bit_list = range_with_len 0 (length (rowss D.parts)) }

-- one past a number, or 0 if there is none
abbrev pub one_past : Option ℕ → ℕ
one_past None = 0
one_past (Some b) = suc b

abbrev pub one_past_greatest : BitSet → ℕ
one_past_greatest s = one_past (greatest s)

-- The width is one past the greatest member, and the count is the number of members. A search does not open these
-- terms: else it would look up each set at the greatest valid bit, in each function over any element type.
unfoldable pub IsWidthOf : BitSet → ℕ → Type 0
IsWidthOf s width = width ≡ one_past_greatest s

unfoldable pub IsCountOf : BitSet → ℕ → Type 0
IsCountOf s count = count ≡ len s

-- The laws of an element type with these elements and this `==`. `all` is the set of ALL_BITS, `width` is BIT_WIDTH and
-- `count` is VARIANT_COUNT.
pub record IsElementType {T : Type 0} (elements : Elements T) (eq : T → T → Bool) (all : BitSet) (width count : ℕ) : Type 0 where
  -- the members of ALL_BITS are the numbers of the list, and none is in the list twice
  pub valid : all ≡ valid_bits elements
  pub distinct : IsTrue (is_distinct elements.bit_list)
  -- each value's bit is valid
  pub bit_is_valid : (v : T) → IsTrue (contains all (elements.bit v))
  -- two values with the same bit are equal, and `==` is true exactly if the bits are the same
  pub bit_tells : (v w : T) → elements.bit v ≡ elements.bit w → v ≡ w
  pub eq_tells : (v w : T) → IsTrue (eq v w) ↔ (elements.bit v ≡ elements.bit w)
  -- the width is one past the greatest valid bit, and the count is the number of valid bits
  pub width_is : IsWidthOf all width
  pub count_is : IsCountOf all count

-- each number of the first list is in the second
unfoldable pub AreBitsOf : List ℕ → List ℕ → Type 0
AreBitsOf bs bit_list = IsTrue (list_all (λ b. is_in b bit_list) bs)

-- the bits that an iterator may have left
pub record AreLeft (bs bit_list : List ℕ) : Type 0 where
  pub ascends : AscendsFrom 0 bs
  pub valid : AreBitsOf bs bit_list
