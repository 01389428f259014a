-- The name in the fault of an unknown name.
--     unknown_is_text      the value at its place in the list is a string
--     as_str_tells      a value whose `as_str` is a string is this string
--     unknown_texts      the ruleset of the two
use Rattle.std.proofs.Common.{◌≡◌, ℕ, suc, ◌+◌, Bool, true, false, cond, is_none, is_some, List, map, Some, None, option_and_then, IsSome, Result, Err, refl, sym, ap, subst, ◌∙◌, arith}
use Rattle.std.proofs.lemmas.Iterator.Adapters.{position_from-zero}
use Rattle.std.specs.List.{position, position_from}
use Rattle.enumset.specs.Sets.{BitSet}
use Rattle.serde_json.specs.Data.{Data, null, boolean, number, string, array, object, Items, no_items, item}
use Rattle.serde_json.specs.Find.{as_str, at, get_item}
use Rattle.enumset.specs.Json.{unless_fault, values_of}
use Rattle.enumset.specs.JsonNames.{set_of_list, string_in, is_no_string, is_unknown}
use Rattle.enumset.specs.Names.{Names}
use Rattle.enumset.specs.declared.set_json.fault.JsonFault.{JsonFault}
use Rattle.enumset.specs.declared.set_json.fault.JsonFault.TheVariants.{NotAText, UnknownName}
use Rattle.enumset.specs.declared.set_json.unknown.Unknown.TheVariants.{Refuse}

pub as_str_tells : (d : Data) (s : List ℕ) → as_str d ≡ Some s → d ≡ string s
as_str_tells (string t) s e = cc
as_str_tells null s e = absurd (cc)
as_str_tells (boolean b) s e = absurd (cc)
as_str_tells (number n) s e = absurd (cc)
as_str_tells (array ds) s e = absurd (cc)
as_str_tells (object ms) s e = absurd (cc)

-- at this place, counted from a number, the items have a string
Found : Items → ℕ → ℕ → Type 0
Found items from place = (k : ℕ) × (place ≡ from + k) × IsSome (option_and_then as_str (get_item k items))

found : (t : List ℕ → Bool) (items : Items) (from place : ℕ) → position_from is_no_string from (values_of items) ≡ None → position_from t from (map string_in (values_of items)) ≡ Some place → Found items from place
unfolding Found
found t no_items from place none some = absurd (cc)
found t (item d ds) from place none some =
    let later = found t ds (from + 1) place in
    elim (as_str d) as (λ o. as_str d ≡ o → Found (item d ds) from place) [
      | None ↦ λ no_text. absurd (none≢some (sym (ap (λ o. cond (is_none o) (Some from) (position_from is_no_string (from + 1) (values_of ds))) no_text) ∙ none))
      | Some s ↦ λ is_text.
          let texts : position_from is_no_string (from + 1) (values_of ds) ≡ None = sym (ap (λ o. cond (is_none o) (Some from) (position_from is_no_string (from + 1) (values_of ds))) is_text) ∙ none in
          elim (t (string_in d)) as (λ b. t (string_in d) ≡ b → Found (item d ds) from place) [
            | true ↦ λ here. (0, omega (arith, some_same (sym (ap (λ b. cond b (Some from) (position_from t (from + 1) (map string_in (values_of ds)))) here) ∙ some)), ap is_some is_text)
            | false ↦ λ not_here.
                let (k, is, text) = later texts (sym (ap (λ b. cond b (Some from) (position_from t (from + 1) (map string_in (values_of ds)))) not_here) ∙ some) in
                (suc k, omega arith, text)
          ] refl
    ] refl
  where
    none≢some : {n : ℕ} → Some n ≡ None → ⊥
    none≢some e = cc

    some_same : {m n : ℕ} → Some m ≡ Some n → m ≡ n
    some_same e = cc

at_place : (items : Items) (q place : ℕ) → Found items 0 q → q ≡ place → IsSome (option_and_then as_str (get_item place items))
unfolding Found
at_place items q place (k, is, text) e = let here : k ≡ place = omega arith in subst (λ n. IsSome (option_and_then as_str (get_item n items))) here text

by_places : (items : Items) (t : List ℕ → Bool) (read : Result BitSet JsonFault) (place : ℕ) → ((p : ℕ) → read ≡ Err (UnknownName p) → ⊥)
    → unless_fault NotAText (position is_no_string (values_of items)) (unless_fault UnknownName (position t (map string_in (values_of items))) read) ≡ Err (UnknownName place)
    → IsSome (option_and_then as_str (get_item place items))
by_places items t read place is_read e =
    elim (position is_no_string (values_of items)) as (λ a. position is_no_string (values_of items) ≡ a → unless_fault NotAText a (unless_fault UnknownName (position t (map string_in (values_of items))) read) ≡ Err (UnknownName place) → IsSome (option_and_then as_str (get_item place items))) [
      | Some k ↦ λ a f. absurd (cc)
      | None ↦ λ a f. elim (position t (map string_in (values_of items))) as (λ b. position t (map string_in (values_of items)) ≡ b → unless_fault UnknownName b read ≡ Err (UnknownName place) → IsSome (option_and_then as_str (get_item place items))) [
        | None ↦ λ b f. absurd (is_read place f)
        | Some q ↦ λ b f. at_place items q place (found t items 0 q (sym (position_from-zero is_no_string (values_of items)) ∙ a) (sym (position_from-zero t (map string_in (values_of items))) ∙ b)) (same f)
      ] refl f
    ] refl e
  where
    same : {p q : ℕ} → (unless_fault UnknownName (Some p) read) ≡ Err (UnknownName q) → p ≡ q
    same e = cc

pub unknown_is_text : (names : Names) (d : Data) (place : ℕ) → set_of_list names Refuse d ≡ Err (UnknownName place) → IsSome (option_and_then as_str (at place d))
unknown_is_text names (array items) place e = by_places items (is_unknown names) _ place (λ p f. cc) e
unknown_is_text names null place e = absurd (cc)
unknown_is_text names (boolean b) place e = absurd (cc)
unknown_is_text names (number n) place e = absurd (cc)
unknown_is_text names (string s) place e = absurd (cc)
unknown_is_text names (object ms) place e = absurd (cc)

pub ruleset unknown_texts = (unknown_is_text, as_str_tells)
