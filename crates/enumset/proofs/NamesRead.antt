-- Lists and maps of names, read one name at a time up to the first fault, and what they are read as.
use Rattle.std.proofs.Common.{◌≡◌, ◌+◌, Bool, true, false, cond, ℕ, Option, Some, None, Err, List, [], ◌∷◌, map, String, string_bytes, refl, sym, ap, ◌∙◌, arith, position, filter, filter_map, is_none, Result, Global}
use Rattle.std.proofs.lemmas.Iterator.Adapters.{position_from-zero}
use Rattle.std.specs.List.{cons_option, position_from}
use Rattle.std.specs.Option.{option_or, option_map_or}
use Rattle.serde_json.specs.Data.{Data}
use Rattle.serde_json.specs.View.{view, items_view, members_view}
use Rattle.serde_json.specs.declared.value.Value.{Value}
use Rattle.enumset_repr.specs.BitSet.{BitSet, empty, insert, union, from_list}
use Rattle.enumset_repr.specs.Laws.Algebra.{empty_union, union_insert, insert_union}
use Rattle.enumset_sets.specs.Laws.Folds.{union_none}
use Rattle.enumset.proofs.JsonLaws.{values_back}
use Rattle.enumset.specs.Json.{unless_fault, values_of}
use Rattle.enumset.specs.JsonNames.{members_in, string_in, is_true, is_no_string, is_no_boolean, is_unknown, known_set, unless_unknown, set_of_values, set_of_members}
use Rattle.enumset.specs.Names.{Names, bit_named}
use Rattle.enumset.specs.declared.set_json.fault.JsonFault.{JsonFault}
use Rattle.enumset.specs.declared.set_json.fault.JsonFault.TheVariants.{NotAText, NotABoolean}
use Rattle.enumset.specs.declared.set_json.unknown.Unknown.{Unknown}

named_first : (o : Option ℕ) (s : BitSet) (bs : List ℕ) → union (option_map_or (insert s) o s) (from_list bs) ≡ union s (from_list (cons_option o bs))
unfolding from_list
named_first None s bs = refl
named_first (Some b) s bs = insert_union s (from_list bs) b ∙ sym (union_insert s (from_list bs) b)

pub or_none : (first : Option ℕ) → first ≡ option_or first None
or_none first = grind arith

first_place : (first : Option ℕ) (b : Bool) (place : ℕ) (later : Option ℕ) → option_or (option_or first (cond b (Some place) None)) later ≡ option_or first (cond b (Some place) later)
first_place first b place later = grind arith

-- ---- what items are read as: each is a name that is accepted or not, or a fault

module _ {X : Type 0} (is_fault is_taken : X → Bool) (name : X → List ℕ) (fault : ℕ → JsonFault) (names : Names) (unknown : Unknown) where
  -- what the items from an index on are read as, given the set so far and the index of the first unknown name
  pub read_on : ℕ → BitSet → Option ℕ → List X → Result BitSet JsonFault
  read_on place s first xs =
      unless_fault fault (position_from is_fault place xs) (unless_unknown unknown (option_or first (position_from (is_unknown names) place (map name xs))) (union s (known_set names (map name (filter is_taken xs)))))

  pub read_end : (place : ℕ) (s : BitSet) (first : Option ℕ) (xs : List X) → xs ≡ [] → read_on place s first xs ≡ unless_unknown unknown first s
  unfolding read_on
  read_end place s first xs none = ap (read_on place s first) none ∙ (λ j. unless_unknown unknown (sym (or_none first) j) (union_none s j))

  one_added : (b : Bool) (s : BitSet) (x : X) (xs : List X) → union (cond b (option_map_or (insert s) (bit_named names (name x)) s) s) (known_set names (map name xs)) ≡ union s (known_set names (map name (cond b (x ∷ xs) xs)))
  one_added true s x xs = named_first (bit_named names (name x)) s (filter_map (bit_named names) (map name xs))
  one_added false s x xs = refl

  module _ (place : ℕ) (s : BitSet) (first : Option ℕ) (xs rest : List X) (x : X) (is : xs ≡ x ∷ rest) where
    pub read_fault : is_fault x ≡ true → read_on place s first xs ≡ Err (fault place)
    unfolding read_on
    read_fault one = rw (is, one) refl

    -- the next name, which has a bit or does not
    pub read_next : (bit : Option ℕ) (taken : Bool) → is_fault x ≡ false → is_taken x ≡ taken → bit_named names (name x) ≡ bit
        → read_on place s first xs ≡ read_on (place + 1) (cond taken (option_map_or (insert s) bit s) s) (option_or first (cond (is_none bit) (Some place) None)) rest
    unfolding read_on
    read_next bit taken none here named =
        rw (is, none, ← here, ← named)
        (λ j. unless_fault fault (position_from is_fault (place + 1) rest) (unless_unknown unknown (sym (first_place first (is_unknown names (name x)) place (position_from (is_unknown names) (place + 1) (map name rest))) j) (sym (one_added (is_taken x) s x (filter is_taken rest)) j)))

  read_all : (xs : List X) → read_on 0 empty None xs ≡ unless_fault fault (position is_fault xs) (unless_unknown unknown (position (is_unknown names) (map name xs)) (known_set names (map name (filter is_taken xs))))
  unfolding read_on
  read_all xs = λ j. unless_fault fault (sym (position_from-zero is_fault xs) j) (unless_unknown unknown (sym (position_from-zero (is_unknown names) (map name xs)) j) (empty_union (known_set names (map name (filter is_taken xs))) j))

-- ---- lists

abbrev pub list_on : Names → Unknown → ℕ → BitSet → Option ℕ → List Data → Result BitSet JsonFault
list_on = read_on is_no_string (λ value. true) string_in NotAText

all_taken : (ds : List Data) → filter (λ value. true) ds ≡ ds
all_taken [] = refl
all_taken (d ∷ ds) = ap (λ es. d ∷ es) (all_taken ds)

pub list_read_all : (names : Names) (unknown : Unknown) (ds : List Data) → list_on names unknown 0 empty None ds ≡ set_of_values names unknown ds
list_read_all names unknown ds =
    read_all is_no_string (λ value. true) string_in NotAText names unknown ds
    ∙ ap (λ es. unless_fault NotAText (position is_no_string ds) (unless_unknown unknown (position (is_unknown names) (map string_in ds)) (known_set names (map string_in es)))) (all_taken ds)

pub list_read : (names : Names) (unknown : Unknown) (vs : List Value) → list_on names unknown 0 empty None (map view vs) ≡ set_of_values names unknown (values_of (items_view vs))
list_read names unknown vs = list_read_all names unknown (map view vs) ∙ ap (set_of_values names unknown) (sym (values_back (map view vs)))

-- ---- maps

abbrev pub map_on : Names → Unknown → ℕ → BitSet → Option ℕ → List (List ℕ × Data) → Result BitSet JsonFault
map_on = read_on is_no_boolean is_true (λ m. m.0) NotABoolean

-- a member, from the name and the value that the code has
abbrev pub seen : String Global × Value → List ℕ × Data
seen m = (string_bytes m.0, view m.1)

members_seen : (ms : List (String Global × Value)) → members_in (members_view ms) ≡ map seen ms
members_seen [] = refl
members_seen (m ∷ ms) = ap (λ ns. seen m ∷ ns) (members_seen ms)

pub map_read : (names : Names) (unknown : Unknown) (ms : List (String Global × Value)) → map_on names unknown 0 empty None (map seen ms) ≡ set_of_members names unknown (members_in (members_view ms))
map_read names unknown ms =
    read_all is_no_boolean is_true (λ m. m.0) NotABoolean names unknown (map seen ms) ∙ ap (set_of_members names unknown) (sym (members_seen ms))
