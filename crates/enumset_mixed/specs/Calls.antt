-- What the calls of an iterator over the members of a mixed set say. An item is `Valid` of an element or `Invalid` of
-- an unknown bit.
--     HasBit      an item is that of a bit: `Valid` of the element with this bit, which is valid, or `Invalid` of the
--         bit, which is unknown
--     item_steps, item_steps_back      the steps of an iterator over members;  the same from the back
use Rattle.std.specs.Prelude.{◌≡◌, ℕ, true, false, Option}
use Rattle.std.specs.Iterator.{YieldsLastBy}
use Rattle.enumset_repr.specs.Asks.{IterView, BoundsAsks}
use Rattle.enumset_repr.specs.BitSet.{contains}
use Rattle.enumset_sets.specs.Elements.{Elements, valid_bits}
use Rattle.enumset_sets.specs.Laws.Iterators.{steps_by}
use Rattle.enumset_mixed.specs.Mixed.{bit_with_validity, with_validity}
use Rattle.enumset_mixed.specs.declared.mixed_value.MixedValue.{MixedValue}
use Rattle.enumset_mixed.specs.declared.mixed_value.MixedValue.TheVariants.{Valid, Invalid}

abbrev pub HasBit : {T R I : Type 0} → Elements T → MixedValue T R I → ℕ → Type 0
HasBit elements (Valid v) q = (elements.bit v ≡ q) × (contains (valid_bits elements) q ≡ true)
HasBit elements (Invalid b) q = (b ≡ q) × (contains (valid_bits elements) q ≡ false)

abbrev pub item_steps : {T R I : Type 0} → Elements T → IterView → Option (MixedValue T R I) → IterView → Type 0
item_steps elements = steps_by (bit_with_validity elements.bit) (with_validity (valid_bits elements))

abbrev pub item_steps_back : {T R I : Type 0} → Elements T → IterView → Option (MixedValue T R I) → IterView → Type 0
item_steps_back elements i r j = YieldsLastBy (bit_with_validity elements.bit) (λ (k : IterView). with_validity (valid_bits elements) k.items) i r j × BoundsAsks i.asks i.span r j.asks j.span
