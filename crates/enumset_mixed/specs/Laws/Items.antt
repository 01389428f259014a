-- The bits of the items that a mixed set's iterator yields.
--     none_left      no bit is left if no item is
--     gave_first, gave_last      the first bit left is that of the first item left;  the last is that of the last item
--     map_items, item_option      items, and an `Option` of one, as bits that are paired with whether they are valid
--     items_first, items_last      a step of a mixed set's iterator takes out the first bit left, and yields the item
--         that has it;  the same of the last bit
--     items_collected, items_selected      what `collect` returns, of items;  what it returns after a filter
--     few_after, few_after_back      what a step from an end leaves ascends, and has fewer than 2^32 numbers
use Rattle.std.proofs.Common.{◌≡◌, ℕ, Bool, true, false, List, [], ◌∷◌, ◌++◌, map, Option, Some, None, MatchOption, Result, Ok, Err, IfOk, refl, sym, ap, ◌∙◌}
use Rattle.std.proofs.lemmas.List.{append_cancel_left, map-append}
use Rattle.std.specs.Fn.{Mut, CalledAt}
use Rattle.std.specs.Iterator.{DrainsIf}
use Rattle.std.specs.Iterator.Adapters.{filter_source, filter_callee, filter_steps}
use Rattle.std.specs.Iterator.Runs.{CallKeepsClosure}
use Rattle.std.specs.Option.{option_map}
use Rattle.std.specs.declared.iter.Filter.{Filter}
use denote.Ref.{Bor}
use Rattle.enumset_repr.specs.Asks.{IterView}
use Rattle.enumset_repr.specs.BitSet.{BitSet, ascending, contains, from_list}
use Rattle.enumset_repr.specs.Laws.Ascending.{AscendsFrom}
use Rattle.enumset_sets.specs.Calls.{SelectsAt}
use Rattle.enumset_sets.specs.Elements.{Elements, valid_bits}
use Rattle.enumset_sets.specs.Laws.Calls.{FewAscend, TakesFirst, TakesLast, collected, few_first, few_last, few_none, HaveBits}
use Rattle.enumset_sets.specs.Laws.Filters as filtered
use Rattle.enumset_mixed.specs.Calls.{HasBit, item_steps, item_steps_back}
use Rattle.enumset_mixed.specs.Mixed.{bit_with_validity, with_validity}
use Rattle.enumset_mixed.specs.declared.mixed_value.MixedValue.{MixedValue}
use Rattle.enumset_mixed.specs.declared.mixed_value.MixedValue.TheVariants.{Valid, Invalid}

-- the bits of a list, without whether each is valid
bits-with_validity : (valid : BitSet) (bs : List ℕ) → map (λ p. p.0) (with_validity valid bs) ≡ bs
bits-with_validity valid [] = refl
bits-with_validity valid (b ∷ bs) = ap (λ cs. b ∷ cs) (bits-with_validity valid bs)

bits_at : (valid : BitSet) (bs : List ℕ) (items : List (ℕ × Bool)) → with_validity valid bs ≡ items → bs ≡ map (λ p. p.0) items
bits_at valid bs items h = sym (bits-with_validity valid bs) ∙ ap (map (λ p. p.0)) h

pub none_left : (valid : BitSet) (bs : List ℕ) → with_validity valid bs ≡ [] → bs ≡ []
none_left valid bs h = bits_at valid bs [] h

pub gave_first : (valid : BitSet) (bs cs : List ℕ) (item : ℕ × Bool) → with_validity valid bs ≡ item ∷ with_validity valid cs → bs ≡ item.0 ∷ cs
gave_first valid bs cs item h = bits_at valid bs (item ∷ with_validity valid cs) h ∙ ap (λ rest. item.0 ∷ rest) (bits-with_validity valid cs)

pub gave_last : (valid : BitSet) (bs cs : List ℕ) (item : ℕ × Bool) → with_validity valid bs ≡ with_validity valid cs ++ item ∷ [] → bs ≡ cs ++ item.0 ∷ []
gave_last valid bs cs item h =
    bits_at valid bs (with_validity valid cs ++ item ∷ []) h
    ∙ map-append (λ p. p.0) (with_validity valid cs) (item ∷ [])
    ∙ ap (λ rest. rest ++ item.0 ∷ []) (bits-with_validity valid cs)

-- the item's bit is valid just where the item says so
first_validity : (valid : BitSet) (bs cs : List ℕ) (item : ℕ × Bool) → with_validity valid bs ≡ item ∷ with_validity valid cs → item ≡ (item.0, contains valid item.0)
first_validity valid bs cs item h =
    let same : item ∷ with_validity valid cs ≡ (item.0, contains valid item.0) ∷ with_validity valid cs = sym h ∙ ap (with_validity valid) (gave_first valid bs cs item h) in
    cc

last_validity : (valid : BitSet) (bs cs : List ℕ) (item : ℕ × Bool) → with_validity valid bs ≡ with_validity valid cs ++ item ∷ [] → item ≡ (item.0, contains valid item.0)
last_validity valid bs cs item h =
    let same : with_validity valid cs ++ item ∷ [] ≡ with_validity valid cs ++ (item.0, contains valid item.0) ∷ [] = sym h ∙ ap (with_validity valid) (gave_last valid bs cs item h) ∙ map-append (λ b. (b, contains valid b)) cs (item.0 ∷ []) in
    let one : item ∷ [] ≡ (item.0, contains valid item.0) ∷ [] = append_cancel_left (with_validity valid cs) (item ∷ []) ((item.0, contains valid item.0) ∷ []) same in
    cc

-- ---- the item of a bit

module _ {T R I : Type 0} (elements : Elements T) where
  shown_has : (m : MixedValue T R I) (b : ℕ) → bit_with_validity elements.bit m ≡ (b, contains (valid_bits elements) b) → HasBit elements m b
  shown_has (Valid v) b is = (ap (λ p. p.0) is, sym (ap (λ p. p.1) is))
  shown_has (Invalid c) b is = (ap (λ p. p.0) is, sym (ap (λ p. p.1) is))

  has_shown : (m : MixedValue T R I) (b : ℕ) → HasBit elements m b → bit_with_validity elements.bit m ≡ (b, contains (valid_bits elements) b)
  has_shown (Valid v) b has = ap (λ c. (c, true)) has.0 ∙ ap (λ t. (b, t)) (sym has.1)
  has_shown (Invalid c) b has = ap (λ c. (c, false)) has.0 ∙ ap (λ t. (b, t)) (sym has.1)

  pub map_items : (ms : List (MixedValue T R I)) (bs : List ℕ) → HaveBits (HasBit elements) ms bs → map (bit_with_validity elements.bit) ms ≡ with_validity (valid_bits elements) bs
  map_items [] [] have = refl
  map_items [] (b ∷ bs) have = absurd have
  map_items (m ∷ ms) [] have = absurd have
  map_items (m ∷ ms) (b ∷ bs) have =
      ap (λ p. p ∷ map (bit_with_validity elements.bit) ms) (has_shown m b have.0)
      ∙ ap (λ ps. (b, contains (valid_bits elements) b) ∷ ps) (map_items ms bs have.1)

  pub item_option : (o : Option ℕ) (r : Option (MixedValue T R I)) → MatchOption r (o ≡ None) (λ m. (b : ℕ) × HasBit elements m b × (o ≡ Some b)) → option_map (bit_with_validity elements.bit) r ≡ option_map (λ b. (b, contains (valid_bits elements) b)) o
  item_option o None none = sym (ap (option_map (λ b. (b, contains (valid_bits elements) b))) none)
  item_option o (Some m) one =
      ap Some (has_shown m one.0 one.1) ∙ sym (ap (option_map (λ b. (b, contains (valid_bits elements) b))) one.2)

  pub items_first : TakesFirst (HasBit {T = T} {R = R} {I = I} elements) (item_steps {T = T} {R = R} {I = I} elements)
  items_first = record {
    none = λ i j step. (none_left (valid_bits elements) i.items step.0.0, none_left (valid_bits elements) j.items step.0.1);
    some = λ i m j step.
        let item = bit_with_validity elements.bit m in
        (item.0, shown_has m item.0 (first_validity (valid_bits elements) i.items j.items item step.0), gave_first (valid_bits elements) i.items j.items item step.0);
  }

  pub items_last : TakesLast (HasBit {T = T} {R = R} {I = I} elements) (item_steps_back {T = T} {R = R} {I = I} elements)
  items_last = record {
    none = λ i j step. (none_left (valid_bits elements) i.items step.0.0, none_left (valid_bits elements) j.items step.0.1);
    some = λ i m j step.
        let item = bit_with_validity elements.bit m in
        (item.0, shown_has m item.0 (last_validity (valid_bits elements) i.items j.items item step.0), gave_last (valid_bits elements) i.items j.items item step.0);
  }

bits_shown : {A : Type 0} (view : A → ℕ × Bool) (xs : List A) → map (λ x. (view x).0) xs ≡ map (λ p. p.0) (map view xs)
bits_shown view [] = refl
bits_shown view (x ∷ xs) = ap (λ bs. (view x).0 ∷ bs) (bits_shown view xs)

module _ {T R I : Type 0} (elements : Elements T) where
  pub items_collected : {B E : Type 0} (i : IterView) (IsComplete : B → Type 0) (Gives : List (MixedValue T R I) → B → Type 0) (r : Result B E) → IfOk r (λ v. (ms : List (MixedValue T R I)) × DrainsIf (item_steps elements) (IsComplete v) i ms × Gives ms v) → IfOk r (λ v. IsComplete v → (ms : List (MixedValue T R I)) × (map (bit_with_validity elements.bit) ms ≡ with_validity (valid_bits elements) i.items) × (from_list (map (λ m. (bit_with_validity elements.bit m).0) ms) ≡ from_list i.items) × Gives ms v)
  items_collected {E = E} i IsComplete Gives (Ok v) ran = λ whole.
      let valid = valid_bits elements in
      let view : MixedValue T R I → ℕ × Bool = bit_with_validity elements.bit in
      let all = collected _ _ (items_first elements) {E = E} i IsComplete Gives (Ok v) ran whole in
      let items = map_items elements all.0 i.items all.1 in
      let bits = bits_shown view all.0 ∙ ap (map (λ p. p.0)) items ∙ bits-with_validity valid i.items in
      (all.0, items, ap from_list bits, all.2)
  items_collected i IsComplete Gives (Err e) ran = tt

module _ (bs cs : List ℕ) where
  pub few_after : (r : Option ℕ) → MatchOption r ((bs ≡ []) × (cs ≡ [])) (λ b. bs ≡ b ∷ cs) → FewAscend bs → FewAscend cs
  few_after None none few = few_none cs none.1
  few_after (Some b) step few = few_first b bs cs step few

  pub few_after_back : (r : Option ℕ) → MatchOption r ((bs ≡ []) × (cs ≡ [])) (λ b. bs ≡ cs ++ b ∷ []) → FewAscend bs → FewAscend cs
  few_after_back None none few = few_none cs none.1
  few_after_back (Some b) step few = few_last b bs cs step few

module _ {F T R I : Type 0} (elements : Elements T) (g : Mut F (Bor (MixedValue T R I) × Unit {0}) Bool) (f : F) (keeps : CallKeepsClosure g f) (s : Filter IterView F) (is : filter_callee s ≡ f) (ascends : AscendsFrom 0 (filter_source s).items) where
  pub items_selected : {B E : Type 0} (IsComplete : B → Type 0) (Gives : List (MixedValue T R I) → B → Type 0) (r : Result B E) → IfOk r (λ v. (ms : List (MixedValue T R I)) × DrainsIf (filter_steps (item_steps elements) g) (IsComplete v) s ms × Gives ms v) → IfOk r (λ v. IsComplete v → (u : BitSet) × (ms : List (MixedValue T R I)) × SelectsAt (HasBit elements) (λ m b. CalledAt g f m b f) (from_list (filter_source s).items) u × (map (bit_with_validity elements.bit) ms ≡ with_validity (valid_bits elements) (ascending u)) × Gives ms v)
  items_selected {E = E} IsComplete Gives (Ok v) ran = λ whole.
      let all = filtered.collected _ _ (items_first elements) g f keeps s is ascends {E = E} IsComplete Gives (Ok v) ran whole in
      (all.0, all.1, all.2, map_items elements all.1 (ascending all.0) all.3, all.4)
  items_selected IsComplete Gives (Err e) ran = tt
