-- The invariant of the loop that reads plain lists.
use Rattle.std.proofs.Common.{◌≡◌, ◌+◌, ℕ, cond, List, [], ◌∷◌, ◌++◌, Option, Some, None, Ok, Err, refl, sym, ap, ◌∙◌, ◌⊎◌, inl, inr, subst, option_map, Result, true}
use Rattle.std.specs.Option.{option_or, option_map_or}
use Rattle.std.specs.Result.{IsErrAnd}
use Rattle.serde_json.specs.Data.{Data, array, string, item, no_items, Items}
use Rattle.serde_json.specs.Read.{read}
use Rattle.enumset_repr.specs.BitSet.{BitSet, empty, insert}
use Rattle.enumset.proofs.JsonItems.{passed}
use Rattle.enumset.proofs.JsonLists.{opened, no_items_read, next_string, last_string}
use Rattle.enumset.proofs.NamesRead.{list_on, list_read_all, read_next, read_end}
use Rattle.enumset.specs.Json.{values_of}
use Rattle.enumset.specs.JsonNames.{set_of_list, unless_unknown, is_unknown}
use Rattle.enumset.specs.JsonPlain.{IsPlain, AreSpaces, Passed}
use Rattle.enumset.specs.JsonReads.{value_read, IsResult, IsReadOf}
use Rattle.enumset.specs.Names.{Names, bit_named}
use Rattle.enumset.specs.declared.set_json.fault.JsonFault.{JsonFault}
use Rattle.enumset.specs.declared.set_json.fault.JsonFault.TheVariants.{NotJson, OutOfMemory}
use Rattle.enumset.specs.declared.set_json.unknown.Unknown.{Unknown}
use Rattle.enumset.specs.declared.set_json.unknown.Unknown.TheVariants.{Drop, Refuse}

-- the result for a text's value is the result for the text
pub is_read : (reader : Data → Result BitSet JsonFault) (text : List ℕ) (wanted result : Result BitSet JsonFault) → value_read reader text ≡ Some wanted → result ≡ wanted → IsResult (value_read reader text) result
is_read reader text wanted result e is = subst (λ o. IsResult o result) (sym e) is

-- the result for a text that the parser rejects
pub refused : (reader : Data → Result BitSet JsonFault) (text : List ℕ) (result : Result BitSet JsonFault) (Memory : Type 0)
    → IsErrAnd result (λ fault. (Memory × (fault ≡ OutOfMemory)) ⊎ ((Memory → ⊥) × ((line : ℕ) × (fault ≡ NotJson line)))) → ((Memory → ⊥) → read text ≡ None) → IsReadOf reader text result
refused reader text (Ok s) Memory gives none = absurd gives
refused reader text (Err fault) Memory (inl (memory, is)) none = inl (ap Err is)
refused reader text (Err fault) Memory (inr (other, (line, is))) none = inr (subst (λ o. IsResult o (Err fault)) (sym (ap (option_map reader) (none other))) (line, ap Err is))

-- if no name is unknown, the set is the result
pub no_unknown : (unknown : Unknown) (s t : BitSet) → s ≡ t → Ok s ≡ unless_unknown unknown None t
no_unknown Drop s t same = ap Ok same
no_unknown Refuse s t same = ap Ok same

module _ (names : Names) (unknown : Unknown) (text : List ℕ) where
  -- if what is left after an opening quote goes on as a list, the text is read as the names before it and then this
  -- list
  abbrev pub GoesOn : List ℕ → ℕ → BitSet → Option ℕ → Type 0
  GoesOn left place s first =
      (ds : Items) → read (91 ∷ 34 ∷ left) ≡ Some (array ds) → value_read (set_of_list names unknown) text ≡ Some (list_on names unknown place s first (values_of ds))

  read_as : (ds : Items) → read text ≡ Some (array ds) → value_read (set_of_list names unknown) text ≡ Some (list_on names unknown 0 empty None (values_of ds))
  read_as ds e = ap (option_map (set_of_list names unknown)) e ∙ ap Some (sym (list_read_all names unknown (values_of ds)))

  pub none_named : (bytes rest end : List ℕ) → bytes ≡ text → Passed bytes 91 rest → Passed rest 93 end → AreSpaces end → value_read (set_of_list names unknown) text ≡ Some (unless_unknown unknown None empty)
  none_named bytes rest end same found close spaced =
      read_as no_items (ap read (sym same) ∙ no_items_read bytes rest end found close spaced) ∙ ap Some (read_end _ _ _ _ names unknown 0 empty None [] refl)

  pub goes_on_from : (bytes rest left : List ℕ) → bytes ≡ text → Passed bytes 91 rest → Passed rest 34 left → GoesOn left 0 empty None
  goes_on_from bytes rest left same found quote ds e = read_as ds (ap read (sym same) ∙ opened bytes rest (34 ∷ left) found (passed rest 34 left quote) ∙ e)

  module _ (left name rest : List ℕ) (place : ℕ) (s next : BitSet) (first later : Option ℕ) (so_far : GoesOn left place s first) (plain : IsPlain name) (split : left ≡ name ++ 34 ∷ rest)
      (added : next ≡ option_map_or (insert s) (bit_named names name) s) (seen : later ≡ option_or first (cond (is_unknown names name) (Some place) None)) where
    one_read : (ds : Items) → list_on names unknown place s first (string name ∷ values_of ds) ≡ list_on names unknown (place + 1) next later (values_of ds)
    one_read ds =
        read_next _ _ _ _ names unknown place s first _ (values_of ds) (string name) refl (bit_named names name) true refl refl refl
        ∙ (λ j. list_on names unknown (place + 1) (sym added j) (sym seen j) (values_of ds))

    pub goes_on : (after following : List ℕ) → Passed rest 44 after → Passed after 34 following → GoesOn following (place + 1) next later
    goes_on after following comma quote ds e = so_far (item (string name) ds) (next_string left name rest plain split after following ds comma quote e) ∙ ap Some (one_read ds)

    pub ends : (end : List ℕ) → Passed rest 93 end → AreSpaces end → value_read (set_of_list names unknown) text ≡ Some (unless_unknown unknown later next)
    ends end close spaced =
        so_far (item (string name) no_items) (last_string left name rest plain split end close spaced) ∙ ap Some (one_read no_items ∙ read_end _ _ _ _ names unknown (place + 1) next later [] refl)
