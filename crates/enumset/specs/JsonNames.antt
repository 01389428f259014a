-- JSON lists and maps of names as sets, and the fault of a value that is not one.
--     members_in      the members of an object, each name with its value, in the order of their names
--     string_in, is_true      the string that a value is, if it is one;  whether a member's value is `true`
--     is_no_string, is_no_boolean      the tests that find a fault: whether a value is not a string, and whether a
--         member's value is not a boolean
--     is_unknown      whether no variant has a string as its name
--     known_set      the set of the names that are known
--     unless_unknown      the set that was read, or the fault of the first unknown name
--     named_set      the set of the names that are known, where unknown names are dropped, or the first of them is the
--         fault
--     names_in, true_names      the names of members;  of the members whose value is `true`
--     set_of_values, set_of_list      the set that a list of values is read as, or the fault;  the set that an array is
--         read as, or the fault
--     set_of_members, set_of_map      the set that a list of members is read as, or the fault;  the set that an object
--         is read as, or the fault
--     list_value, map_value      the values that a set is written as
--     with_bits_true      members, with `true` at the names of further bits
--     in_map      the members of a set in the order in which a map has their names
--     accepted_by_name      the set of valid bits that a reader keeps of a set, whose members' names come in a given
--         order, or the fault
use Rattle.std.specs.Prelude.{ℕ, Bool, true, false, if◌then◌else◌, is_none, List, [], ◌∷◌, map, filter, filter_map, position, Option, unwrap_or, ok_or, Result, Ok, Err}
use Rattle.std.specs.List.{prefix_len}
use Rattle.enumset_repr.specs.BitSet.{BitSet, from_list, ascending, contains, intersection, is_subset}
use Rattle.serde_json.specs.Data.{Data, boolean, string, array, object, Members, no_members, member, put}
use Rattle.serde_json.specs.Find.{as_str, as_bool, as_array, as_object}
use Rattle.serde_json.specs.View.{items_of}
use Rattle.enumset.specs.Json.{and_then, unless_fault, values_of}
use Rattle.enumset.specs.Names.{Names, name_of, bit_named}
use Rattle.enumset.specs.declared.set_json.unknown.Unknown.{Unknown}
use Rattle.enumset.specs.declared.set_json.unknown.Unknown.TheVariants.{Drop, Refuse}
use Rattle.enumset.specs.declared.set_json.fault.JsonFault.{JsonFault}
use Rattle.enumset.specs.declared.set_json.fault.JsonFault.TheVariants.{NotAnArray, NotAnObject, NotAText, NotABoolean, UnknownName}

-- ---- what is read

abbrev pub members_in : Members → List (List ℕ × Data)
members_in no_members = []
members_in (member name value members) = (name, value) ∷ members_in members

abbrev pub string_in : Data → List ℕ
string_in value = unwrap_or (as_str value) []

abbrev pub is_no_string : Data → Bool
is_no_string value = is_none (as_str value)

abbrev pub is_true : List ℕ × Data → Bool
is_true m = unwrap_or (as_bool m.1) false

abbrev pub is_no_boolean : List ℕ × Data → Bool
is_no_boolean m = is_none (as_bool m.1)

abbrev pub is_unknown : Names → List ℕ → Bool
is_unknown names found = is_none (bit_named names found)

abbrev pub known_set : Names → List (List ℕ) → BitSet
known_set names found = from_list (filter_map (bit_named names) found)

-- the set that was read, or the fault of the first unknown name
abbrev pub unless_unknown : Unknown → Option ℕ → BitSet → Result BitSet JsonFault
unless_unknown Drop first s = Ok s
unless_unknown Refuse first s = unless_fault UnknownName first (Ok s)

-- the set of the names that are chosen among all names
abbrev pub named_set : Names → Unknown → List (List ℕ) → List (List ℕ) → Result BitSet JsonFault
named_set names unknown all chosen = unless_unknown unknown (position (is_unknown names) all) (known_set names chosen)

abbrev pub set_of_values : Names → Unknown → List Data → Result BitSet JsonFault
set_of_values names unknown values =
    unless_fault NotAText (position is_no_string values) (named_set names unknown (map string_in values) (map string_in values))

abbrev pub set_of_list : Names → Unknown → Data → Result BitSet JsonFault
set_of_list names unknown value = and_then (ok_or (as_array value) NotAnArray) (λ items. set_of_values names unknown (values_of items))

abbrev pub names_in : List (List ℕ × Data) → List (List ℕ)
names_in ms = map (λ m. m.0) ms

abbrev pub true_names : List (List ℕ × Data) → List (List ℕ)
true_names ms = names_in (filter is_true ms)

abbrev pub set_of_members : Names → Unknown → List (List ℕ × Data) → Result BitSet JsonFault
set_of_members names unknown ms =
    unless_fault NotABoolean (position is_no_boolean ms) (named_set names unknown (names_in ms) (true_names ms))

abbrev pub set_of_map : Names → Unknown → Data → Result BitSet JsonFault
set_of_map names unknown value = and_then (ok_or (as_object value) NotAnObject) (λ ms. set_of_members names unknown (members_in ms))

-- ---- what is written

abbrev pub list_value : Names → BitSet → Data
list_value names s = array (items_of (map (λ b. string (name_of names b)) (ascending s)))

-- the members put in so far, and then the members of further bits
abbrev pub with_bits_true : Names → Members → List ℕ → Members
with_bits_true names done [] = done
with_bits_true names done (b ∷ bs) = with_bits_true names (put (name_of names b) (boolean true) done) bs

abbrev pub map_value : Names → BitSet → Data
map_value names s = object (with_bits_true names no_members (ascending s))

-- ---- what a reader of another type accepts

abbrev pub in_map : Names → BitSet → List ℕ
in_map names s = filter_map (bit_named names) (names_in (members_in (with_bits_true names no_members (ascending s))))

-- the index of the first unknown name is the number of valid bits before it
abbrev pub accepted_by_name : BitSet → Unknown → BitSet → List ℕ → Result BitSet JsonFault
accepted_by_name valid Drop s bits = Ok (intersection s valid)
accepted_by_name valid Refuse s bits = if is_subset s valid then Ok s else Err (UnknownName (prefix_len (contains valid) bits))
