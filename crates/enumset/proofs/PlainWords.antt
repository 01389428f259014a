-- The invariant of the loop that reads plain words.
use Rattle.std.proofs.Common.{◌≡◌, ◌<◌, ◌+◌, ◌/◌, ◌^◌, ℕ, Bool, true, false, ◌&&◌, if◌then◌else◌, Option, Some, IfSome, List, [], ◌∷◌, ◌++◌, length, length-append, decimal, refl, sym, ap, subst, ◌∙◌, append_assoc, arith, slice_index, ◌==◌, nat_lt}
use Rattle.std.proofs.Math.Seq.{get_or-append_seam}
use Rattle.std.proofs.lemmas.List.{get_or_append_left}
use Rattle.std.specs.Bool.{then_some}
use Rattle.serde_json.specs.Read.{read}
use Rattle.enumset_repr.specs.BitSet.{BitSet, empty, is_subset, below, low}
use Rattle.enumset_repr.specs.Words.{word, with_word, bits_of}
use Rattle.enumset.proofs.JsonItems.{spaces, comma_stops, closes, passed_stops}
use Rattle.enumset.proofs.JsonLists.{opened, no_items_read}
use Rattle.enumset.proofs.JsonNumbers.{IsNumberFirst, next_number, last_number}
use Rattle.enumset.proofs.JsonTokens.{tokens}
use Rattle.enumset.proofs.JsonWords.{AreRead, begun, taken, same_before, all_read}
use Rattle.enumset.specs.Json.{words_value}
use Rattle.enumset.specs.JsonPlain.{AreSpaces, Passed}

-- a fact about a value that is kept under a condition
pub kept_if : {A : Type 0} (P : A → Type 0) (o : Option A) (b : Bool) (v : A) → o ≡ then_some b v → (b ≡ true → P v) → IfSome o P
kept_if P o true v is has = subst (λ o. IfSome o P) (sym is) (has refl)
kept_if P o false v is has = subst (λ o. IfSome o P) (sym is) tt

module _ (text : List ℕ) (width : ℕ) where
  -- the words before an index were read, and the text that is left goes on with the array
  abbrev pub GoesOn : List ℕ → ℕ → BitSet → Bool → Type 0
  GoesOn left place s is_whole =
      (ws : List ℕ) × (length ws ≡ place) × AreRead ws place width s is_whole
      × ((g digits more : List ℕ) → AreSpaces g → left ≡ g ++ digits → IsNumberFirst digits → read (91 ∷ digits) ≡ Some (words_value more) → read text ≡ Some (words_value (ws ++ more)))

  -- the text was read as an array of words, of which s has the bits below the width
  abbrev pub IsRead : BitSet → Bool → Type 0
  IsRead s is_whole =
      (ws : List ℕ) × (read text ≡ Some (words_value ws)) × (s ≡ low (bits_of ws) width) × (is_whole ≡ is_subset (bits_of ws) (below width))

  pub no_words : (rest end : List ℕ) (s : BitSet) (is_whole : Bool) → Passed text 91 rest → Passed rest 93 end → AreSpaces end → s ≡ empty → is_whole ≡ true → IsRead s is_whole
  no_words rest end s is_whole found close spaced none whole =
      let all = all_read [] 0 width s is_whole (begun [] width s is_whole none whole) (omega arith) in
      ([], no_items_read text rest end found close spaced, all.0, all.1)

  pub goes_on_from : (rest : List ℕ) (s : BitSet) (is_whole : Bool) → Passed text 91 rest → s ≡ empty → is_whole ≡ true → GoesOn rest 0 s is_whole
  goes_on_from rest s is_whole found none whole = (
    [],
    refl,
    begun [] width s is_whole none whole,
    λ g digits more gs here first e. opened text rest digits found (ap tokens here ∙ (spaces g digits gs).0) ∙ e,
  )

  module _ (left g digits rest : List ℕ) (place n x : ℕ) (s r : BitSet) (is_whole kept : Bool) (so_far : GoesOn left place s is_whole) (gs : AreSpaces g) (begin : left ≡ g ++ digits)
      (count : n ≡ (width + 63) / 64) (fits : x < 2 ^ 64) (split : digits ≡ decimal x ++ rest)
      (made : r ≡ (if nat_lt place n then with_word s width place x else s)) (whole : kept ≡ (is_whole && (word r place == x))) where
    abbrev done : List ℕ
    done = so_far.0 ++ x ∷ []

    one_more : AreRead done (place + 1) width r kept
    one_more =
        let same : (w : ℕ) → w < place → slice_index done w ≡ slice_index so_far.0 w = λ w under. get_or_append_left so_far.0 (x ∷ []) 0 w (omega (arith, under, so_far.1)) in
        let here : x ≡ slice_index done place = sym (get_or-append_seam so_far.0 x [] 0) ∙ ap (λ w. slice_index done w) so_far.1 in
        taken done place width s is_whole (same_before so_far.0 place width s is_whole so_far.2 done same) n x r kept count here fits made whole

    pub goes_on : (after : List ℕ) → Passed rest 44 after → GoesOn after (place + 1) r kept
    goes_on after comma = (
      done,
      omega (arith, length-append so_far.0 (x ∷ []), so_far.1),
      one_more,
      λ h next more hs here first e.
          so_far.3 g digits (x ∷ more) gs begin (x, rest, fits, (passed_stops rest 44 after (comma_stops after) comma).0, split) (next_number x digits rest fits split after h next _ comma hs here first e)
          ∙ ap (λ ws. Some (words_value ws)) (sym (append_assoc so_far.0 (x ∷ []) more)),
    )

    pub ends : (end : List ℕ) → Passed rest 93 end → AreSpaces end → IsRead r kept
    ends end close spaced =
        let all = all_read done (place + 1) width r kept one_more (omega (arith, length-append so_far.0 (x ∷ []), so_far.1)) in (
          done,
          so_far.3 g digits (x ∷ []) gs begin (x, rest, fits, (passed_stops rest 93 end (closes.0 end).0 close).0, split) (last_number x digits rest fits split end close spaced),
          all.0,
          all.1,
        )
