-- The kinds of tokens with which the parts of an expression begin.
--     part_bit      the bit of a part
--     kinds_at, parts_at      the kinds, and the parts, that come first in a rule of a part, by this grammar:
--         a sum is a product, or a sum, + or -, and a product
--         a product is an operand, or a product, * or /, and an operand
--         an operand is a number, a sum in parentheses, or a minus and an operand
--     leading_kinds_of, leading_parts_of      the same of the part of a bit, as sets
--     CanBegin      a part can begin with the kind of this bit
use Rattle.std.specs.Prelude.{◌≡◌, ℕ, true, List, [], ◌∷◌, map, slice_index_or}
use Rattle.enumset.specs.Sets.{BitSet, empty, from_list, is_in, in_place}
use Rattle.example_expressions.specs.contracts.part.Part.{the_type}
use Rattle.example_expressions.specs.declared.kind.Kind.{Kind}
use Rattle.example_expressions.specs.declared.kind.Kind.TheVariants.{Number, Open, Minus}
use Rattle.example_expressions.specs.declared.part.Part.{Part}
use Rattle.example_expressions.specs.declared.part.Part.TheVariants.{Sum, Product, Operand}
use Rattle.example_expressions.specs.Grammar.{bit}

abbrev pub part_bit : Part → ℕ
part_bit part = (in_place the_type).bit part

abbrev pub kinds_at : Part → List Kind
kinds_at Sum = []
kinds_at Product = []
kinds_at Operand = Number ∷ Open ∷ Minus ∷ []

abbrev pub parts_at : Part → List Part
parts_at Sum = Sum ∷ Product ∷ []
parts_at Product = Product ∷ Operand ∷ []
parts_at Operand = []

abbrev pub leading_kinds_of : ℕ → BitSet
leading_kinds_of q = slice_index_or
    (from_list (map bit (kinds_at Sum))
    ∷ from_list (map bit (kinds_at Product))
    ∷ from_list (map bit (kinds_at Operand))
    ∷ [])
    q
    empty

abbrev pub leading_parts_of : ℕ → BitSet
leading_parts_of q = slice_index_or
    (from_list (map part_bit (parts_at Sum))
    ∷ from_list (map part_bit (parts_at Product))
    ∷ from_list (map part_bit (parts_at Operand))
    ∷ [])
    q
    empty

pub data CanBegin : Part → ℕ → Type 0 where
  at_once : {part : Part} {kind : ℕ} → is_in kind (map bit (kinds_at part)) ≡ true → CanBegin part kind
  by_part : {part : Part} {kind : ℕ} (first : Part) → is_in (part_bit first) (map part_bit (parts_at part)) ≡ true → CanBegin first kind → CanBegin part kind
