-- What serde_json reads for a number, and for a list of numbers one at a time, with any spaces between its tokens.
use Rattle.std.proofs.Common.{◌≡◌, ◌<◌, ◌^◌, ℕ, suc, List, [], ◌∷◌, ◌++◌, Some, decimal, refl, sym, ap, subst, ◌∙◌, append-nil, arith, false, option_map}
use Rattle.serde_json.proofs.Numbers.{number_of-decimal}
use Rattle.serde_json.proofs.OnLiterals.{serde_json_on_literals}
use Rattle.serde_json.specs.Data.{Num, unsigned, array, item, no_items, Items, number}
use Rattle.serde_json.specs.Read.{read, number_of}
use Rattle.serde_json.specs.Sent.{number_token}
use Rattle.serde_json.specs.Written.{outline}
use Rattle.enumset.proofs.JsonDigits.{Ends, decimal_before}
use Rattle.enumset.proofs.JsonItems.{spaces, spaces_alone, Stops, spaces_stop, end_stops, IsItem, next_item, closes, last_item}
use Rattle.enumset.proofs.JsonSteps.{empty_list}
use Rattle.enumset.proofs.JsonTokens.{tokens, after_value}
use Rattle.enumset.proofs.MapHandles.{value, whole}
use Rattle.enumset.specs.JsonPlain.{AreSpaces, Passed}

number_item : (n : ℕ) (text rest : List ℕ) → n < 2 ^ 64 → text ≡ decimal n ++ rest → IsItem text (number_token false (decimal n) ∷ []) rest
number_item n text rest fits is stop = ap tokens is ∙ (decimal_before n rest fits stop.0).0 ∙ ap (λ ts. number_token false (decimal n) ∷ ts) stop.1

-- ---- a number alone

value_alone : (d n : ℕ) → value (suc d) (number_token false (decimal n) ∷ []) ≡ Some (outline (number (unsigned n)), [])
unfolding serde_json_on_literals value
value_alone d n = refl

pub number_alone : (n : ℕ) (g h : List ℕ) → n < 2 ^ 64 → AreSpaces g → AreSpaces h → read (g ++ (decimal n ++ h)) ≡ Some (number (unsigned n))
number_alone n g h fits gs hs =
    let stop = subst Stops (append-nil h) (spaces_stop h [] hs end_stops) in
    let all = (spaces g (decimal n ++ h) gs).0 ∙ number_item n (decimal n ++ h) h fits refl stop ∙ ap (λ ts. number_token false (decimal n) ∷ ts) (spaces_alone h hs) in
    whole (g ++ (decimal n ++ h)) (outline (number (unsigned n))) (ap (value 127) all ∙ value_alone 126 n) ∙ ap (option_map number) (number_of-decimal n fits)

-- ---- a list, from its end to its front

-- the depth is a variable, so that no tactic computes the reader at each depth
item_step : (d : ℕ) → suc (suc d) ≡ 127 → (ys zs s : List ℕ) (n : Num) (ds : Items)
    → tokens ys ≡ number_token false s ∷ tokens zs → number_of s ≡ Some n → read (91 ∷ zs) ≡ Some (array ds) → read (91 ∷ ys) ≡ Some (array (item (number n) ds))
item_step d e ys zs s n ds t is h =
    let h' = rw (← e) at h in
    rw (← e) (unfold serde_json_on_literals in grind (arith, t, is, h'))

-- a text begins with a number, which something ends
abbrev pub IsNumberFirst : List ℕ → Type 0
IsNumberFirst text = (n : ℕ) × (e : List ℕ) × (n < 2 ^ 64) × Ends e × (text ≡ decimal n ++ e)

number_next : (next : List ℕ) → IsNumberFirst next → after_value (44 ∷ next) ≡ tokens next
number_next next (n, e, fits, ends, is) = let (first, later) = decimal_before n e fits ends in ap (λ t. after_value (44 ∷ t)) is ∙ later ∙ sym first ∙ ap tokens (sym is)

module _ (n : ℕ) (left rest : List ℕ) (fits : n < 2 ^ 64) (split : left ≡ decimal n ++ rest) where
  pub next_number : (after g next : List ℕ) (ds : Items) → Passed rest 44 after → AreSpaces g → after ≡ g ++ next → IsNumberFirst next → read (91 ∷ next) ≡ Some (array ds) → read (91 ∷ left) ≡ Some (array (item (number (unsigned n)) ds))
  next_number after g next ds comma gs is first =
      item_step 125 refl left next (decimal n) (unsigned n) ds
      (next_item left (number_token false (decimal n) ∷ []) rest (number_item n left rest fits split) after _ comma (ap (λ t. after_value (44 ∷ t)) is ∙ (spaces g next gs).4 ∙ number_next next first)) (number_of-decimal n fits)

  pub last_number : (end : List ℕ) → Passed rest 93 end → AreSpaces end → read (91 ∷ left) ≡ Some (array (item (number (unsigned n)) no_items))
  last_number end close spaced =
      item_step 125 refl left (93 ∷ []) (decimal n) (unsigned n) no_items (last_item 93 closes.0 rest end close spaced left (number_token false (decimal n) ∷ []) (number_item n left rest fits split)) (number_of-decimal n fits) empty_list
