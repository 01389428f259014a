-- What serde_json reads for a list of plain strings, one string at a time, and what it writes for such a list.
use Rattle.std.proofs.Common.{◌≡◌, ℕ, List, [], ◌∷◌, ◌++◌, Some, map, refl, sym, ap, ◌∙◌, arith, append_assoc, subst, Bool, false, true, not, cond, length, ◌==◌, length-append}
use Rattle.std.proofs.lemmas.Simd.{map-map}
use Rattle.std.specs.Prelude.{⊤}
use Rattle.serde_json.proofs.OnLiterals.{serde_json_on_literals}
use Rattle.serde_json.specs.Data.{array, string, item, no_items, Items}
use Rattle.serde_json.specs.Read.{read}
use Rattle.serde_json.specs.Sent.{text_token}
use Rattle.serde_json.specs.View.{items_of}
use Rattle.serde_json.specs.Written.{compact_text, items_text, comma_if}
use Rattle.enumset_repr.specs.BitSet.{BitSet, ascending}
use Rattle.enumset.proofs.JsonItems.{name_item, quote_next, next_item, passed, opens, closes, last_item, no_item}
use Rattle.enumset.proofs.JsonSteps.{same_read, empty_list, item_step}
use Rattle.enumset.proofs.JsonTokens.{tokens}
use Rattle.enumset.specs.JsonNames.{list_value}
use Rattle.enumset.specs.JsonPlain.{IsPlain, IsTextOf, AreSpaces, Passed}
use Rattle.enumset.specs.Names.{Names, name_of}

-- ---- what is read, with spaces between tokens

-- a text that opens a list is read as the list from its first item on
pub opened : (text rest left : List ℕ) → Passed text 91 rest → tokens rest ≡ tokens left → read text ≡ read (91 ∷ left)
opened text rest left found same = same_read text (91 ∷ left) (passed text 91 rest found ∙ opens.0 rest ∙ ap (λ ts. tokens (91 ∷ []) ++ ts) same ∙ sym (opens.0 left))

pub no_items_read : (text rest end : List ℕ) → Passed text 91 rest → Passed rest 93 end → AreSpaces end → read text ≡ Some (array no_items)
no_items_read text rest end found close spaced = opened text rest (93 ∷ []) found (no_item 93 closes.0 rest end close spaced) ∙ empty_list

module _ (left s rest : List ℕ) (plain : IsPlain s) (split : left ≡ s ++ 34 ∷ rest) where
  pub next_string : (after next : List ℕ) (ds : Items) → Passed rest 44 after → Passed after 34 next → read (91 ∷ 34 ∷ next) ≡ Some (array ds) → read (91 ∷ 34 ∷ left) ≡ Some (array (item (string s) ds))
  next_string after next ds comma quote =
      item_step (34 ∷ left) (34 ∷ next) s ds (next_item (34 ∷ left) (text_token false s ∷ []) rest (name_item left s rest plain split) after _ comma (quote_next after next quote))

  pub last_string : (end : List ℕ) → Passed rest 93 end → AreSpaces end → read (91 ∷ 34 ∷ left) ≡ Some (array (item (string s) no_items))
  last_string end close spaced =
      item_step (34 ∷ left) (93 ∷ []) s no_items (last_item 93 closes.0 rest end close spaced (34 ∷ left) (text_token false s ∷ []) (name_item left s rest plain split)) empty_list

-- ---- what is written

abbrev pub ArePlain : List (List ℕ) → Type 0
ArePlain [] = ⊤
ArePlain (s ∷ ss) = IsPlain s × ArePlain ss

pub plain_text : (s : List ℕ) → IsPlain s → compact_text (string s) ≡ 34 ∷ (s ++ 34 ∷ [])
unfolding serde_json_on_literals
plain_text [] p = refl
plain_text (x ∷ s) p = grind (arith, plain_text s p.1, p.0.0, p.0.1, p.0.2)

-- the text of a string, and then other bytes
pub text_before : (s rest : List ℕ) → IsPlain s → compact_text (string s) ++ rest ≡ 34 ∷ (s ++ 34 ∷ rest)
text_before s rest p = ap (λ t. t ++ rest) (plain_text s p) ∙ ap (λ t. 34 ∷ t) (append_assoc s (34 ∷ []) rest)

-- ---- the invariant of a writer's loop

-- names, each followed by `close`, with commas between them, and then the end
abbrev pub joined : List ℕ → List ℕ → Bool → List (List ℕ) → List ℕ
joined close end later [] = end
joined close end later (name ∷ names) = comma_if later ++ (34 ∷ (name ++ (close ++ joined close end true names)))

regroup : (text front close name rest : List ℕ) (is_new : Bool) → (((text ++ cond is_new (front ++ 34 ∷ []) (close ++ 44 ∷ 34 ∷ [])) ++ name) ++ close) ++ rest ≡ (text ++ cond is_new front close) ++ (comma_if (not is_new) ++ (34 ∷ (name ++ (close ++ rest))))
regroup text front close name rest true = simp append_assoc
regroup text front close name rest false = simp append_assoc

close_up : (text front close end : List ℕ) (is_new : Bool) → text ++ cond is_new (front ++ end) (close ++ end) ≡ (text ++ cond is_new front close) ++ end
close_up text front close end true = simp append_assoc
close_up text front close end false = simp append_assoc

not_new : (text front close name : List ℕ) (is_new : Bool) → (length ((text ++ cond is_new (front ++ 34 ∷ []) (close ++ 44 ∷ 34 ∷ [])) ++ name) == 0) ≡ false
not_new text front close name true = grind (arith, length-append (text ++ (front ++ 34 ∷ [])) name, length-append text (front ++ 34 ∷ []), length-append front (34 ∷ []))
not_new text front close name false = grind (arith, length-append (text ++ (close ++ 44 ∷ 34 ∷ [])) name, length-append text (close ++ 44 ∷ 34 ∷ []), length-append close (44 ∷ 34 ∷ []))

-- A text so far, what opens it or closes its last name, and the names that are left make the whole text. All names are
-- plain if those left are.
pub record Writes (front close end : List ℕ) (all : List (List ℕ)) (text : List ℕ) (left : List (List ℕ)) : Type 0 where
  pub so_far : (text ++ cond (length text == 0) front close) ++ joined close end (not (length text == 0)) left ≡ front ++ joined close end false all
  pub plain : ArePlain left → ArePlain all

module _ {front close end : List ℕ} {all : List (List ℕ)} where
  pub begins : (text : List ℕ) → text ≡ [] → Writes front close end all text all
  begins text none = record { so_far = ap (λ t. (t ++ cond (length t == 0) front close) ++ joined close end (not (length t == 0)) all) none; plain = λ plain. plain }

  pub next_name : (text name next : List ℕ) (left rest : List (List ℕ)) → left ≡ name ∷ rest → IsPlain name
      → next ≡ (text ++ cond (length text == 0) (front ++ 34 ∷ []) (close ++ 44 ∷ 34 ∷ [])) ++ name → Writes front close end all text left → Writes front close end all next rest
  next_name text name next left rest here plain put before =
      let was = subst (Writes front close end all text) here before in
      let later = ap (λ t. length t == 0) put ∙ not_new text front close name (length text == 0) in
      record { so_far = (λ j. (put j ++ cond (later j) front close) ++ joined close end (not (later j)) rest) ∙ regroup text front close name _ (length text == 0) ∙ was.so_far; plain = λ ps. was.plain (plain, ps) }

  pub ended : (text whole : List ℕ) (left : List (List ℕ)) → left ≡ [] → whole ≡ text ++ cond (length text == 0) (front ++ end) (close ++ end) → Writes front close end all text left
      → (whole ≡ front ++ joined close end false all) × ArePlain all
  ended text whole left none put before =
      let was = subst (Writes front close end all text) none before in (put ∙ close_up text front close end (length text == 0) ∙ was.so_far, was.plain tt)

-- ---- lists of names

abbrev pub strings : List (List ℕ) → List ℕ
strings names = 91 ∷ joined (34 ∷ []) (93 ∷ []) false names

strings_are : (later : Bool) (names : List (List ℕ)) → ArePlain names → joined (34 ∷ []) (93 ∷ []) later names ≡ items_text later (items_of (map string names))
strings_are later [] p = refl
strings_are later (name ∷ names) p = ap (λ t. comma_if later ++ t) (ap (λ t. 34 ∷ (name ++ 34 ∷ t)) (strings_are true names p.1) ∙ sym (text_before name _ p.0))

strings_read : (names : List (List ℕ)) → ArePlain names → read (strings names) ≡ Some (array (items_of (map string names)))
strings_read [] p = empty_list
strings_read (name ∷ []) p = last_string _ name _ p.0 refl [] ([], tt, refl) tt
strings_read (name ∷ other ∷ names) p = next_string _ name _ p.0 refl _ _ (items_of (map string (other ∷ names))) ([], tt, refl) ([], tt, refl) (strings_read (other ∷ names) p.1)

pub list_written : (names : Names) (s : BitSet) (text : List ℕ) → let texts = map (name_of names) (ascending s) in text ≡ strings texts → ArePlain texts → IsTextOf (list_value names s) text
list_written names s text is plain =
    let texts = map (name_of names) (ascending s) in
    subst (λ ds. IsTextOf (array (items_of ds)) text) (map-map string (name_of names) (ascending s)) (is ∙ ap (λ t. 91 ∷ t) (strings_are false texts plain), ap read is ∙ strings_read texts plain)
