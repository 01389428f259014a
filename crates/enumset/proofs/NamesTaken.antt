-- What a reader accepts of the names that a writer wrote for a set, as a list and as a map.
use Rattle.std.proofs.Common.{◌≡◌, ◌+◌, ℕ, Bool, true, cond, Ordering, Less, Equal, Greater, Option, Some, None, Result, Ok, List, [], ◌∷◌, map, refl, sym, ap, subst, ◌∙◌, arith, position, ◌||◌, not, nat_lt, zip, filter_map, is_none, length, nat_cmp, is_eq}
use Rattle.std.proofs.lemmas.Bool.{and_parts, cond-true}
use Rattle.std.proofs.lemmas.Bool.Decides.{nat_tests, same_from_decides}
use Rattle.std.proofs.lemmas.Iterator.Adapters.{position_from-zero}
use Rattle.std.proofs.lemmas.List.{length-map}
use Rattle.std.proofs.lemmas.List.Recursion.{same_from_clauses}
use Rattle.std.proofs.lemmas.Map.Text.{is_eq-slice_cmp}
use Rattle.std.proofs.lemmas.Simd.{map-map}
use Rattle.std.proofs.lemmas.Slice.Eq.{bytes_eq-Decides}
use Rattle.std.specs.Cmp.Lexicographic.{slice_cmp}
use Rattle.std.specs.List.{AllByRecursion, list_all, prefix_len, position_or_len, cons_option, position_from}
use Rattle.std.specs.Ordering.{match_ordering}
use Rattle.serde_json.specs.Data.{Data, boolean, string, Members, no_members, member, put}
use Rattle.enumset_repr.specs.BitSet.{BitSet, is_in, contains, intersection, from_list, ascending, is_subset}
use Rattle.enumset_repr.specs.Laws.Algebra.{from_list_ascending, insert_inside, empty_intersection, intersection_within}
use Rattle.enumset_repr.specs.Laws.Members.{same_set, contains_from_list, contains_ascending, contains_is_subset, is_subset_contains, list_all_any, list_all_each}
use Rattle.enumset_repr.specs.Laws.Sets.{intersection_insert}
use Rattle.enumset_sets.specs.Laws.Elements.{bits_are_listed}
use Rattle.enumset.proofs.JsonLaws.{values_back}
use Rattle.enumset.proofs.NameLaws.{AreNames, name_back, agree_at}
use Rattle.enumset.specs.Json.{unless_fault}
use Rattle.enumset.specs.JsonNames.{members_in, names_in, true_names, string_in, is_no_string, is_no_boolean, is_unknown, unless_unknown, named_set, set_of_values, set_of_list, set_of_map, list_value, with_bits_true, map_value, in_map, accepted_by_name}
use Rattle.enumset.specs.Names.{Names, name_of, bit_named, names_agree}
use Rattle.enumset.specs.declared.set_json.fault.JsonFault.{JsonFault}
use Rattle.enumset.specs.declared.set_json.fault.JsonFault.TheVariants.{NotAText, NotABoolean}
use Rattle.enumset.specs.declared.set_json.unknown.Unknown.{Unknown}
use Rattle.enumset.specs.declared.set_json.unknown.Unknown.TheVariants.{Drop, Refuse}

-- ---- the bits of names

-- what a reader accepts of names with these bits
abbrev taken : Unknown → List (Option ℕ) → Result BitSet JsonFault
taken unknown bits = unless_unknown unknown (position is_none bits) (from_list (filter_map (λ o. o) bits))

by_bits : (names : Names) (unknown : Unknown) (texts : List (List ℕ)) → named_set names unknown texts texts ≡ taken unknown (map (bit_named names) texts)
by_bits names unknown texts =
    let place = same_from_clauses (position_or_len (is_unknown names)) (λ ts. position_or_len is_none (map (bit_named names) ts)) (λ t n. cond (not (is_unknown names t)) (1 + n) 0) refl (λ _ _. refl) (λ _ _. refl) texts in
    let bits = same_from_clauses (filter_map (bit_named names)) (λ ts. filter_map (λ o. o) (map (bit_named names) ts)) (λ t. cons_option (bit_named names t)) refl (λ _ _. refl) (λ _ _. refl) texts in
    λ j. unless_unknown unknown (cond (nat_lt (place j) (sym (length-map texts (bit_named names)) j)) (Some (place j)) None) (from_list (bits j))

module _ (valid : BitSet) where
  -- a bit, if it is valid
  abbrev known : ℕ → Option ℕ
  known b = cond (contains valid b) (Some b) None

  kept : (bs : List ℕ) → from_list (filter_map (λ o. o) (map known bs)) ≡ intersection (from_list bs) valid
  unfolding from_list
  kept [] = sym (empty_intersection valid)
  kept (b ∷ bs) = grind (arith, kept bs, insert_inside (from_list bs) valid b, intersection_insert (from_list bs) valid b)

  first_other : (bs : List ℕ) → position_or_len is_none (map known bs) ≡ prefix_len (contains valid) bs
  first_other [] = refl
  first_other (b ∷ bs) = grind (arith, first_other bs)

  other_within : (bs : List ℕ) → nat_lt (prefix_len (contains valid) bs) (length bs) ≡ not (list_all (contains valid) bs)
  other_within [] = refl
  other_within (b ∷ bs) = grind (arith, nat_tests, other_within bs)

  all_valid : (bs : List ℕ) → list_all (contains valid) bs ≡ is_subset (from_list bs) valid
  all_valid bs = same_from_decides {P = (q : ℕ) → is_in q bs ≡ true → contains valid q ≡ true} _ _
      (λ all q one. list_all_any (contains valid) bs q all one, list_all_each (contains valid) bs)
      (λ within q one. is_subset_contains (from_list bs) valid within q (contains_from_list bs q ∙ one), λ all. contains_is_subset (from_list bs) valid (λ q one. all q (sym (contains_from_list bs q) ∙ one)))

  accepted : (unknown : Unknown) (s : BitSet) (bs : List ℕ) → from_list bs ≡ s → taken unknown (map known bs) ≡ accepted_by_name valid unknown s bs
  accepted Drop s bs is = ap Ok (kept bs ∙ ap (λ t. intersection t valid) is)
  accepted Refuse s bs is = grind (arith, nat_tests, is, kept bs, first_other bs, other_within bs, all_valid bs, length-map bs known, intersection_within s valid)

  -- a set of valid bits is accepted as it is
  pub accepted_whole : (unknown : Unknown) (s : BitSet) (bs : List ℕ) → is_subset s valid ≡ true → accepted_by_name valid unknown s bs ≡ Ok s
  accepted_whole Drop s bs within = ap Ok (intersection_within s valid within)
  accepted_whole Refuse s bs within = cond-true (is_subset s valid) (Ok s) _ within

-- ---- lists

all_texts : (f : ℕ → List ℕ) (place : ℕ) (bs : List ℕ) → position_from is_no_string place (map (λ b. string (f b)) bs) ≡ None
all_texts f place [] = refl
all_texts f place (b ∷ bs) = all_texts f (place + 1) bs

-- ---- maps

-- what holds for each member
abbrev pub Each : (List ℕ → Data → Type 0) → Members → Type 0
Each P ms = AllByRecursion (λ m. P m.0 m.1) (members_in ms)

pub same_key : (k l : List ℕ) → slice_cmp nat_cmp k l ≡ Equal → k ≡ l
same_key k l tied = (bytes_eq-Decides k l).0 (sym (is_eq-slice_cmp k l) ∙ ap is_eq tied)

-- a member that is put in comes before the others, replaces one, or comes behind one
pub put_cases : (P : Members → Members → Type 0) (k : List ℕ) (d : Data) → ((ms : Members) → P ms (member k d ms)) → ((e : Data) (ms : Members) → P (member k e ms) (member k d ms))
    → ((l : List ℕ) (e : Data) (ms new : Members) → P ms new → P (member l e ms) (member l e new)) → (ms : Members) → P ms (put k d ms)
put_cases P k d before same behind no_members = before no_members
put_cases P k d before same behind (member l e ms) = at _ refl (put_cases P k d before same behind ms)
  where
    at : (o : Ordering) → slice_cmp nat_cmp k l ≡ o → P ms (put k d ms) → P (member l e ms) (match_ordering o (member k d (member l e ms)) (member l d ms) (member l e (put k d ms)))
    at Less is later = before (member l e ms)
    at Equal is later = subst (λ t. P (member t e ms) (member t d ms)) (same_key k l is) (same e ms)
    at Greater is later = behind l e ms (put k d ms) later

pub each_put : (P : List ℕ → Data → Type 0) (k : List ℕ) (d : Data) (ms : Members) → P k d → Each P ms → Each P (put k d ms)
each_put P k d ms one = put_cases (λ old new. Each P old → Each P new) k d (λ ms each. (one, each)) (λ e ms each. (one, each.1)) (λ l e ms new later each. (each.0, later each.1)) ms

pub each_written : (P : List ℕ → Data → Type 0) (names : Names) (bs all : List ℕ) (done : Members) → ((b : ℕ) → is_in b all ≡ true → P (name_of names b) (boolean true)) → list_all (λ b. is_in b all) bs ≡ true → Each P done → Each P (with_bits_true names done bs)
each_written P names [] all done one within each = each
each_written P names (b ∷ bs) all done one within each =
    each_written P names bs all (put (name_of names b) (boolean true) done) one (and_parts _ _ within).1 (each_put P (name_of names b) (boolean true) done (one b (and_parts _ _ within).0) each)

-- whether q is the bit of a name;  of one of the names of members
abbrev is_of : Names → ℕ → List ℕ → Bool
is_of names q t = is_in q (cons_option (bit_named names t) [])

abbrev is_among : Names → ℕ → Members → Bool
is_among names q ms = is_in q (filter_map (bit_named names) (names_in (members_in ms)))

either : (o : Option ℕ) (q : ℕ) (bs : List ℕ) → is_in q (cons_option o bs) ≡ (is_in q (cons_option o []) || is_in q bs)
either None q bs = refl
either (Some b) q bs = grind arith

-- a member that is put in adds its bit
is_among-put : (names : Names) (q : ℕ) (k : List ℕ) (d : Data) (ms : Members) → is_among names q (put k d ms) ≡ (is_of names q k || is_among names q ms)
is_among-put names q k d =
    put_cases (λ old new. is_among names q new ≡ (is_of names q k || is_among names q old)) k d
    (λ ms. first k d ms) (λ e ms. grind (arith, first k d ms, first k e ms)) (λ l e ms new later. grind (arith, first l e ms, first l e new, later))
  where
    first : (l : List ℕ) (e : Data) (ms : Members) → is_among names q (member l e ms) ≡ (is_of names q l || is_among names q ms)
    first l e ms = either (bit_named names l) q (filter_map (bit_named names) (names_in (members_in ms)))

-- each member of a map that was written is a name with `true`, so none is a fault, and all are accepted
all_true : (P : List ℕ → Type 0) (place : ℕ) (ms : Members) → Each (λ t d. (d ≡ boolean true) × P t) ms → (position_from is_no_boolean place (members_in ms) ≡ None) × (true_names (members_in ms) ≡ names_in (members_in ms))
all_true P place no_members each = (refl, refl)
all_true P place (member t d ms) each =
    let rest = all_true P (place + 1) ms each.1 in
    (grind (arith, each.0.0, rest.0), grind (arith, each.0.0, rest.1))

module _ (readers writers : Names) (valid : BitSet) (bs : List ℕ) (back : (b : ℕ) → is_in b bs ≡ true → bit_named writers (name_of writers b) ≡ Some b)
    (as_known : (b : ℕ) → is_in b bs ≡ true → bit_named readers (name_of writers b) ≡ known valid b) where
  bits_known : (ms : List ℕ) → list_all (λ b. is_in b bs) ms ≡ true → map (bit_named readers) (map (name_of writers) ms) ≡ map (known valid) ms
  bits_known [] within = refl
  bits_known (m ∷ ms) within = λ j. as_known m (and_parts _ _ within).0 j ∷ bits_known ms (and_parts _ _ within).1 j

  pub list_read : (s : BitSet) (unknown : Unknown) → is_subset s (from_list bs) ≡ true → set_of_list readers unknown (list_value writers s) ≡ accepted_by_name valid unknown s (ascending s)
  list_read s unknown within =
      let texts = map (λ b. string (name_of writers b)) (ascending s) in
      let back = map-map string_in (λ b. string (name_of writers b)) (ascending s) in
      ap (set_of_values readers unknown) (values_back texts)
      ∙ (λ j. unless_fault NotAText ((position_from-zero is_no_string texts ∙ all_texts (name_of writers) 0 (ascending s)) j) (named_set readers unknown (back j) (back j)))
      ∙ by_bits readers unknown (map (name_of writers) (ascending s)) ∙ ap (taken unknown) (bits_known (ascending s) (bits_are_listed bs (from_list bs) s refl within))
      ∙ accepted valid unknown s (ascending s) (from_list_ascending s)

  -- the name of one bit, with `true`
  abbrev IsName : List ℕ → Data → Type 0
  IsName t d = (d ≡ boolean true) × ((b : ℕ) × (bit_named writers t ≡ Some b) × (bit_named readers t ≡ known valid b))

  names_known : (ms : Members) → Each IsName ms → map (bit_named readers) (names_in (members_in ms)) ≡ map (known valid) (filter_map (bit_named writers) (names_in (members_in ms)))
  names_known no_members each = refl
  names_known (member t d ms) each =
      (λ j. each.0.1.2 j ∷ names_known ms each.1 j) ∙ ap (λ o. map (known valid) (cons_option o (filter_map (bit_named writers) (names_in (members_in ms))))) (sym each.0.1.1)

  all_written : (q : ℕ) (ms : List ℕ) (done : Members) → list_all (λ b. is_in b bs) ms ≡ true → is_among writers q (with_bits_true writers done ms) ≡ (is_among writers q done || is_in q ms)
  all_written q [] done within = grind arith
  all_written q (m ∷ ms) done within =
      let here = ap (λ o. is_in q (cons_option o [])) (back m (and_parts _ _ within).0) in
      all_written q ms (put (name_of writers m) (boolean true) done) (and_parts _ _ within).1 ∙ grind (arith, is_among-put writers q (name_of writers m) (boolean true) done)

  pub map_read : (s : BitSet) (unknown : Unknown) → is_subset s (from_list bs) ≡ true → set_of_map readers unknown (map_value writers s) ≡ accepted_by_name valid unknown s (in_map writers s)
  map_read s unknown within =
      let inside = bits_are_listed bs (from_list bs) s refl within in
      let ms = with_bits_true writers no_members (ascending s) in
      let each = each_written IsName writers (ascending s) bs no_members (λ b one. (refl, (b, back b one, as_known b one))) inside tt in
      let plain = all_true (λ t. (b : ℕ) × (bit_named writers t ≡ Some b) × (bit_named readers t ≡ known valid b)) 0 ms each in
      (λ j. unless_fault NotABoolean ((position_from-zero is_no_boolean (members_in ms) ∙ plain.0) j) (named_set readers unknown (names_in (members_in ms)) (plain.1 j)))
      ∙ by_bits readers unknown (names_in (members_in ms))
      ∙ ap (taken unknown) (names_known ms each)
      ∙ accepted valid unknown s (in_map writers s) (same_set _ _ (λ q. contains_from_list (in_map writers s) q ∙ all_written q (ascending s) no_members inside ∙ sym (contains_ascending s q)))

-- ---- the names of element types

-- a type reads what it wrote
pub own_known : (bs : List ℕ) (names : List (List ℕ)) → AreNames bs names → (b : ℕ) → is_in b bs ≡ true → bit_named (zip bs names) (name_of (zip bs names) b) ≡ known (from_list bs) b
own_known bs names are b one = name_back bs names b are one ∙ sym (cond-true (contains (from_list bs) b) (Some b) None (contains_from_list bs b ∙ one))

-- a type reads what another type wrote, if their names agree
pub other_known : (os : List ℕ) (olds : List (List ℕ)) (bs : List ℕ) (names : List (List ℕ)) → AreNames os olds → AreNames bs names → names_agree (zip os olds) (zip bs names) ≡ true
    → (b : ℕ) → is_in b bs ≡ true → bit_named (zip os olds) (name_of (zip bs names) b) ≡ known (from_list os) b
other_known os olds bs names old are agree b one = agree_at os olds bs names b old are agree one ∙ ap (λ t. cond t (Some b) None) (sym (contains_from_list os b))
