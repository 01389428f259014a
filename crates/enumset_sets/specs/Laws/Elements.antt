-- The laws of an enum without fields as an element type, from one test of its bits and its constants (`Lawful` of
-- `enumset_repr`).
--     lawful_in, lawful_in_integer, lawful_in_words      the laws, over any representation, an integer or words
--     lawful_in_place      the laws where each bit is its variant's place, from the laws of the same bits as a list
--     is_valid_bit      a bit is valid exactly if the list has it
--     place_is, listed_bit_is      what the bit of a variant is
--     place_is_valid, listed_bit_is_valid      the bit of a variant is valid
--     has_value      each number in the list of the bits of some values is the bit of one of them
--     HasValues      each listed bit is the bit of some value
--     some_value, all_values      a test passes for some member of a set, or for all, exactly if it does for the bits
--         of its elements
--     passed      what is known if a test passes
--     derived_eq      what a derived `==` of such an enum returns
-- The ruleset `bits_of_variants` says what the bit of each variant is, and that it is valid. It proves the functions of
-- an element type.
use Rattle.std.proofs.Common.{◌≡◌, ◌<◌, ◌≤◌, ℕ, suc, zero, slice_index, ◌^◌, Bool, true, false, eqb, List, Some, sym, ap, ◌∙◌, length, get_or, sum_by, arith, inl, inr, ◌==◌, max, Option, None, eqb-true, eq-eqb, [], ◌∷◌, refl, ◌||◌, ◌↔◌, IsTrue, map, subst, true≢false}
use Rattle.std.proofs.lemmas.Bool.{cases_lt, and_parts, and_from, or_left, or_right}
use Rattle.std.proofs.lemmas.Bool.Decides.{nat_tests}
use Rattle.std.proofs.lemmas.List.FromFn.{length-range_with_len, get_or-range_with_len}
use denote.Enum.Bare.{Bare, tag_one, sameb, same_true, true_same}
use denote.Enum.Declared.{Declared, rowss, tag_of}
use denote.Enum.Enum.{tag_below}
use denote.Struct.Field.{Field}
use Rattle.enumset_repr.specs.BitSet.{BitSet, is_in, contains, insert, from_list, ascending, len, is_subset}
use Rattle.enumset_repr.specs.Ends.{greatest}
use Rattle.enumset_repr.specs.Lawful.{one_past_all, or_else, once_known, IsLawful, IsLawfulNumber, IsLawfulWords}
use Rattle.enumset_repr.specs.Laws.Ascending.{len_empty, len_insert, empty_of_ascending}
use Rattle.enumset_repr.specs.Laws.BitLists.{bits_listed, words_listed}
use Rattle.enumset_repr.specs.Laws.Ends.{greatest_is, greatest_empty, greatest_facts, ascending_no_greatest}
use Rattle.enumset_repr.specs.Laws.Iteration.{read_in}
use Rattle.enumset_repr.specs.Laws.Members.{contains_empty, contains_insert, contains_from_list, contains_ascending, list_all_each, is_subset_contains}
use Rattle.enumset_repr.specs.Number.{bits, is_distinct}
use Rattle.enumset_repr.specs.Words.{bits_of, lists_words}
pub use Rattle.enumset_sets.specs.Elements.{with_bits, in_order, in_place}
use Rattle.std.specs.List.{list_all}
use Rattle.enumset_sets.specs.Elements.{Elements, valid_bits, listed_bit, place, one_past, one_past_greatest, IsWidthOf, IsCountOf, IsElementType}

-- ---- lists of numbers

distinct_places : (bs : List ℕ) → is_distinct bs ≡ true → (i j : ℕ) → i < length bs → j < length bs → get_or bs i 0 ≡ get_or bs j 0 → i ≡ j
distinct_places [] apart i j p q same = absurd (omega (arith, p))
distinct_places (b ∷ bs) apart zero zero p q same = refl
distinct_places (b ∷ bs) apart zero (suc j) p q same = let there = read_in j 0 bs (omega (arith, q)) in absurd (grind (arith, nat_tests, same, apart))
distinct_places (b ∷ bs) apart (suc i) zero p q same = let there = read_in i 0 bs (omega (arith, p)) in absurd (grind (arith, nat_tests, same, apart))
distinct_places (b ∷ bs) apart (suc i) (suc j) p q same = ap suc (distinct_places bs (and_parts _ _ apart).1 i j (omega (arith, p)) (omega (arith, q)) same)

pub len-from_list : (bs : List ℕ) → is_distinct bs ≡ true → len (from_list bs) ≡ length bs
unfolding from_list
len-from_list [] apart = len_empty
len-from_list (b ∷ bs) apart = grind (arith, nat_tests, contains_from_list bs b, len_insert (from_list bs) b, len-from_list bs)

-- ---- one past the greatest

one_past-insert : (s : BitSet) (b : ℕ) → one_past_greatest (insert s b) ≡ max (suc b) (one_past_greatest s)
one_past-insert s b = at (greatest s) refl
  where
    -- if m is in the set with b inserted, and no number past m is in the set
    is_last : (m : ℕ) → contains (insert s b) m ≡ true → ((q : ℕ) → m < q → contains s q ≡ false) → b ≤ m → one_past_greatest (insert s b) ≡ suc m
    is_last m one none from = ap one_past (greatest_is (insert s b) m one (λ q over. let gone = none q over in contains_insert s b q ∙ grind (arith, nat_tests)))

    here : contains (insert s b) b ≡ true
    here = contains_insert s b b ∙ or_left (b == b) _ (eq-eqb b b refl)

    at : (o : Option ℕ) → greatest s ≡ o → one_past_greatest (insert s b) ≡ max (suc b) (one_past o)
    at None none = let gone = empty_of_ascending s (ascending_no_greatest s none) in is_last b here (λ q _. ap (λ t. contains t q) gone ∙ contains_empty q) (omega arith) ∙ omega arith
    at (Some m) some = let facts = greatest_facts s m some in elim (cases_lt b m) [
      | inl less ↦ is_last m (contains_insert s b m ∙ or_right (m == b) _ facts.0) facts.1 (omega (arith, less)) ∙ omega (arith, less)
      | inr from ↦ is_last b here (λ q over. facts.1 q (omega (arith, from, over))) (omega arith) ∙ omega (arith, from)
    ]

one_past_greatest-from_list : (bs : List ℕ) → one_past_greatest (from_list bs) ≡ one_past_all bs
unfolding from_list
one_past_greatest-from_list [] = ap one_past greatest_empty
one_past_greatest-from_list (b ∷ bs) = one_past-insert (from_list bs) b ∙ ap (max (suc b)) (one_past_greatest-from_list bs)

-- ---- the bits of an enum's variants

listed_is_in : (D : Declared) (bs : List ℕ) (v : D.D) → length bs ≡ length (rowss D.parts) → is_in (listed_bit D bs v) bs ≡ true
unfolding listed_bit
listed_is_in D bs v variants = read_in (tag_of D v) 0 bs (omega (arith, variants, tag_below (rowss D.parts) (D.to v)))

module _ (D : Declared) (bare : Bare D.parts) (bs : List ℕ) (variants : length bs ≡ length (rowss D.parts)) (apart : is_distinct bs ≡ true) where
  tag_within : (v : D.D) → tag_of D v < length bs
  tag_within v = omega (arith, variants, tag_below (rowss D.parts) (D.to v))

  bit-tells : (v w : D.D) → (with_bits D bs).bit v ≡ (with_bits D bs).bit w → v ≡ w
  unfolding listed_bit
  bit-tells v w same = tag_one D bare v w (distinct_places bs apart (tag_of D v) (tag_of D w) (tag_within v) (tag_within w) same)

-- ---- a derived `==`

-- the derived `==` of an enum without fields compares the variants, and is true for an enum of one variant
abbrev pub of_one : List (List Field) → Bool → Bool
of_one (Fs ∷ []) same = true
of_one Fss same = same

abbrev pub derived_eq : (D : Declared) → D.D → D.D → Bool
derived_eq D v w = of_one D.parts (sameb D v w)

of_one-same : (Fss : List (List Field)) (i j : ℕ) → i < length (rowss Fss) → j < length (rowss Fss) → of_one Fss (eqb i j) ≡ eqb i j
of_one-same [] i j p q = refl
of_one-same (Fs ∷ []) i j p q = sym (eq-eqb i j (omega (arith, p, q)))
of_one-same (Fs ∷ Gs ∷ Fss) i j p q = refl

derived_eq-same : (D : Declared) (v w : D.D) → derived_eq D v w ≡ sameb D v w
derived_eq-same D v w = of_one-same D.parts (tag_of D v) (tag_of D w) (tag_below (rowss D.parts) (D.to v)) (tag_below (rowss D.parts) (D.to w))

-- ---- the laws

pub passed : (test : Bool) (fault next : Type 0) → (fault → ⊥) → or_else test fault next → (test ≡ true) × next
passed true fault next none h = (refl, h)
passed false fault next none h = absurd (none h)

was_known : (n : ℕ) (next : Type 0) → once_known n next → next
was_known zero next h = h
was_known (suc n) next h = h

-- what is known if the test passes
record Passes (D : Declared) (bs : List ℕ) (valid : Bool) (width count : ℕ) : Type 0 where
  variants : length bs ≡ length (rowss D.parts)
  distinct : is_distinct bs ≡ true
  is_valid : valid ≡ true
  width_is : one_past_all bs ≡ width
  count_is : length bs ≡ count
  bare : Bare D.parts

IsLawful-passes : (D : Declared) (bs : List ℕ) (valid : Bool) (fault : Type 0) (width count : ℕ) → (fault → ⊥) → IsLawful D bs valid fault width count → Passes D bs valid width count
IsLawful-passes D bs valid fault width count none test =
    let a = passed (length bs == length (rowss D.parts)) _ _ (λ h. elim h [ ]) (was_known count _ (was_known width _ test)) in
    let b = passed (is_distinct bs) _ _ (λ h. elim h [ ]) a.1 in
    let c = passed valid fault _ none b.1 in
    let d = passed (one_past_all bs == width) _ _ (λ h. elim h [ ]) c.1 in
    let e = passed (length bs == count) _ _ (λ h. elim h [ ]) d.1 in
    record { variants = eqb-true _ _ a.0; distinct = b.0; is_valid = c.0; width_is = eqb-true _ _ d.0; count_is = eqb-true _ _ e.0; bare = e.1 }

laws : (D : Declared) (bs : List ℕ) (test : Bool) (all : BitSet) (width count : ℕ) → all ≡ from_list bs → Passes D bs test width count → IsElementType (with_bits D bs) (derived_eq D) all width count
unfolding valid_bits IsWidthOf IsCountOf
laws D bs test all width count valid p =
    let tells = bit-tells D p.bare bs p.variants p.distinct in
    record {
      valid = valid;
      distinct = p.distinct;
      bit_is_valid = λ v. ap (λ s. contains s ((with_bits D bs).bit v)) valid ∙ contains_from_list bs _ ∙ listed_is_in D bs v p.variants;
      bit_tells = tells;
      eq_tells = λ v w. (λ e. ap (with_bits D bs).bit (same_true D p.bare v w (sym (derived_eq-same D v w) ∙ e)), λ e. derived_eq-same D v w ∙ true_same D v w (tells v w e));
      width_is = sym p.width_is ∙ sym (one_past_greatest-from_list bs) ∙ ap one_past_greatest (sym valid);
      count_is = sym p.count_is ∙ sym (len-from_list bs p.distinct) ∙ ap len (sym valid);
    }

-- The laws of an enum without fields, over any representation: the value of ALL_BITS represents the set of the list.
pub lawful_in : {bs : List ℕ} {all : BitSet} {width count : ℕ} (D : Declared) → all ≡ from_list bs → IsLawful D bs true ⊥ width count → IsElementType (with_bits D bs) (derived_eq D) all width count
lawful_in {bs} {all} {width} {count} D valid test =
    laws D bs true all width count valid (IsLawful-passes D bs true ⊥ width count (λ h. h) test)

-- The laws of an enum without fields, over an integer, whose value is ALL_BITS.
pub lawful_in_integer : {bs : List ℕ} {width count : ℕ} (D : Declared) (n : ℕ) → IsLawfulNumber D bs n width count → IsElementType (with_bits D bs) (derived_eq D) (bits n) width count
lawful_in_integer {bs} {width} {count} D n test =
    let p = IsLawful-passes D bs (sum_by (λ b. 2 ^ b) bs == n) _ width count (λ h. elim h [ ]) test in
    laws D bs _ (bits n) width count (bits_listed bs n (and_from _ _ p.distinct p.is_valid)) p

-- The laws of an enum without fields, over words, which make up ALL_BITS.
pub lawful_in_words : {bs : List ℕ} {width count : ℕ} (D : Declared) (ns : List ℕ) → IsLawfulWords D bs ns width count → IsElementType (with_bits D bs) (derived_eq D) (bits_of ns) width count
lawful_in_words {bs} {width} {count} D ns test =
    let p = IsLawful-passes D bs (lists_words bs ns) _ width count (λ h. elim h [ ]) test in
    laws D bs _ (bits_of ns) width count (words_listed bs ns p.is_valid) p

-- ---- bits that are their variants' places

in_place-bit : (D : Declared) (v : D.D) → (in_place D).bit v ≡ (in_order D).bit v
unfolding place listed_bit
in_place-bit D v = omega (arith, get_or-range_with_len 0 (length (rowss D.parts)) (tag_of D v) 0 (tag_below (rowss D.parts) (D.to v)))

-- The laws of an enum whose bits are its variants' places, from the laws of the same bits as a list.
pub lawful_in_place : (D : Declared) {eq : D.D → D.D → Bool} {all : BitSet} {width count : ℕ} → IsElementType (in_order D) eq all width count → IsElementType (in_place D) eq all width count
unfolding valid_bits
lawful_in_place D {eq} {all} l =
    let at : (v : D.D) → (in_place D).bit v ≡ (in_order D).bit v = in_place-bit D in
    record {
      valid = l.valid;
      distinct = l.distinct;
      bit_is_valid = λ v. ap (contains all) (at v) ∙ l.bit_is_valid v;
      bit_tells = λ v w same. l.bit_tells v w (sym (at v) ∙ same ∙ at w);
      eq_tells = λ v w. (λ e. at v ∙ (l.eq_tells v w).0 e ∙ sym (at w), λ e. (l.eq_tells v w).1 (sym (at v) ∙ e ∙ at w));
      width_is = l.width_is;
      count_is = l.count_is;
    }

-- ---- what a proof over one enum knows

pub is_valid_bit : {T : Type 0} (elements : Elements T) (q : ℕ) → contains (valid_bits elements) q ≡ is_in q elements.bit_list
unfolding valid_bits
is_valid_bit elements q = contains_from_list elements.bit_list q

-- these equations compute the bit of a variant that is named, and leave the bit of a variable as it is
pub place_is : (D : Declared) (v : D.D) → place D v ≡ tag_of D v
unfolding place
place_is D v = refl

pub listed_bit_is : (D : Declared) (bs : List ℕ) (v : D.D) → listed_bit D bs v ≡ slice_index bs (tag_of D v)
unfolding listed_bit
listed_bit_is D bs v = refl

-- The bit of a variant is valid. The first part shows the search where to use the law: at a call of `contains` for this
-- bit and the valid bits.
pub place_is_valid : (D : Declared) (v : D.D) → (contains (valid_bits (in_place D)) (place D v) ≡ contains (valid_bits (in_place D)) (place D v)) × (contains (valid_bits (in_place D)) (place D v) ≡ true)
place_is_valid D v = (
  refl,
  is_valid_bit (in_place D) _ ∙ ap (λ b. is_in b (in_place D).bit_list) (in_place-bit D v) ∙ listed_is_in D _ v (length-range_with_len 0 (length (rowss D.parts))),
)

pub listed_bit_is_valid : (D : Declared) (bs : List ℕ) (v : D.D) → (contains (valid_bits (with_bits D bs)) (listed_bit D bs v) ≡ contains (valid_bits (with_bits D bs)) (listed_bit D bs v)) × (length bs ≡ length (rowss D.parts) → contains (valid_bits (with_bits D bs)) (listed_bit D bs v) ≡ true)
listed_bit_is_valid D bs v = (refl, λ variants. is_valid_bit (with_bits D bs) _ ∙ listed_is_in D bs v variants)

pub ruleset bits_of_variants = (place_is, listed_bit_is, place_is_valid, listed_bit_is_valid)

-- ---- consequences of the laws

-- the members of a set of valid bits are bits of variants
pub bits_are_listed : (bs : List ℕ) (all s : BitSet) → all ≡ from_list bs → is_subset s all ≡ true → IsTrue (list_all (λ b. is_in b bs) (ascending s))
bits_are_listed bs all s valid sub =
    list_all_each (λ b. is_in b bs) (ascending s) (λ q one. sym (contains_from_list bs q) ∙ sym (ap (λ t. contains t q) valid) ∙ is_subset_contains s all sub q (contains_ascending s q ∙ one))

-- ---- members and elements

-- a number in the list of the bits of some values is the bit of one of them
pub has_value : {T : Type 0} (bit : T → ℕ) (vs : List T) (b : ℕ) → is_in b (map bit vs) ≡ true → (v : T) × (bit v ≡ b)
has_value bit [] b one = absurd (true≢false (sym one))
has_value {T} bit (v ∷ vs) b one = elim (b == bit v) as (λ t. (b == bit v) ≡ t → (t || is_in b (map bit vs)) ≡ true → (w : T) × (bit w ≡ b)) [
  | true ↦ λ same _. (v, sym (eqb-true b (bit v) same))
  | false ↦ λ _ later. has_value bit vs b later
] refl one

-- each bit of the list is the bit of some value
abbrev pub HasValues : {T : Type 0} → Elements T → Type 0
HasValues {T} elements = (b : ℕ) → IsTrue (is_in b elements.bit_list) → (v : T) × (elements.bit v ≡ b)

value_of : {T : Type 0} (elements : Elements T) → HasValues elements → (s : BitSet) → is_subset s (valid_bits elements) ≡ true → (b : ℕ) → contains s b ≡ true → (v : T) × (elements.bit v ≡ b)
value_of elements values s valid b one = values b (sym (is_valid_bit elements b) ∙ is_subset_contains s _ valid b one)

-- a test passes for some member exactly if it passes for the bit of some element
pub some_value : {T : Type 0} (elements : Elements T) → HasValues elements → (s : BitSet) (p : ℕ → Bool) → IsTrue (is_subset s (valid_bits elements)) → ((b : ℕ) × IsTrue (contains s b) × IsTrue (p b)) ↔ ((v : T) × IsTrue (contains s (elements.bit v)) × IsTrue (p (elements.bit v)))
some_value elements values s p valid = (
  λ some. let at = value_of elements values s valid some.0 some.1 in (at.0, subst (λ b. contains s b ≡ true) (sym at.1) some.1, subst (λ b. p b ≡ true) (sym at.1) some.2),
  λ some. (elements.bit some.0, some.1, some.2),
)

-- a test passes for all members exactly if it passes for the bits of all elements
pub all_values : {T : Type 0} (elements : Elements T) → HasValues elements → (s : BitSet) (p : ℕ → Bool) → IsTrue (is_subset s (valid_bits elements)) → ((b : ℕ) → IsTrue (contains s b) → IsTrue (p b)) ↔ ((v : T) → IsTrue (contains s (elements.bit v)) → IsTrue (p (elements.bit v)))
all_values elements values s p valid = (
  λ all v one. all (elements.bit v) one,
  λ all b one. let at = value_of elements values s valid b one in subst (λ c. p c ≡ true) at.1 (all at.0 (subst (λ c. contains s c ≡ true) (sym at.1) one)),
)
