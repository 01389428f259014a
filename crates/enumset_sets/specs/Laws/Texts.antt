-- The text of a set as it is written, one member after another.
--     writes_one_more      a separator and a member are written after the others
--     writes_at      what was written for values is the text of their bits
--     Tells      the first text is not known, or it is the second
--     text_at-tells      the text of a bit is the text of its value, if the value is listed
--     is_text      whether a text is known and is the given text
--     text_of_known      the text of a set if the text of each valid bit is known
use Rattle.std.proofs.Common.{◌≡◌, ℕ, Bool, true, false, List, [], ◌∷◌, ◌++◌, length, map, Option, Some, None, Ok, refl, sym, ap, subst, ◌∙◌, ◌⊎◌, inl, inr, codes, arith, ◌==◌, option_and_then, append-nil, append_assoc, bytes_eq}
use Rattle.std.proofs.Output.{displays_on_IsOk_append, then_text_assoc}
use Rattle.std.proofs.lemmas.Bool.{and_parts}
use Rattle.std.proofs.lemmas.Bool.Decides.{nat_tests}
use Rattle.std.proofs.lemmas.List.{map-append, length-map}
use Rattle.std.proofs.lemmas.Slice.Eq.{bytes_eq-Decides}
use Rattle.std.specs.Fmt.{option_append, DisplaysOnOk}
use Rattle.std.specs.List.{flat_map, join_by, list_all}
use Rattle.std.specs.declared.fmt.Formatter.{Formatter}
use Rattle.enumset_repr.specs.BitSet.{BitSet, ascending, is_subset}
use Rattle.enumset_repr.specs.Laws.Members.{is_subset_contains, contains_ascending, list_all_any, list_all_each}
use Rattle.enumset_sets.specs.Elements.{Elements, valid_bits}
use Rattle.enumset_sets.specs.Laws.Elements.{is_valid_bit}
use Rattle.enumset_sets.specs.Texts.{value_of, text_at, separator, joined_text}

then_nothing : (t : Option (List ℕ)) → t ≡ option_append (Some []) (option_append (Some []) t)
then_nothing None = refl
then_nothing (Some t) = refl

not_first : (u : Option (List ℕ)) (ts : List (Option (List ℕ))) → (length (u ∷ ts) == 0) ≡ false
not_first u ts = grind (arith, nat_tests)

-- a text after others, with the separator that comes before it
with_last : List (Option (List ℕ)) → Bool → Option (List ℕ) → Option (List ℕ)
with_last ts is_first t = option_append (joined_text ts) (option_append (Some (separator is_first)) t)

joined_text-more : (ts : List (Option (List ℕ))) (t : Option (List ℕ)) → joined_text (ts ++ t ∷ []) ≡ with_last ts (length ts == 0) t
unfolding with_last
joined_text-more [] t = then_nothing t
joined_text-more (u ∷ []) t = ap (λ b. with_last (u ∷ []) b t) (sym (not_first u []))
joined_text-more (u ∷ s ∷ ts) t =
    let bar = Some (codes " | ") in
    ap (λ o. option_append u (option_append bar o)) (joined_text-more (s ∷ ts) t ∙ ap (λ b. with_last (s ∷ ts) b t) (not_first s ts))
    ∙ ap (option_append u) (sym (then_text_assoc bar (joined_text (s ∷ ts)) (option_append bar t)))
    ∙ sym (then_text_assoc u (option_append bar (joined_text (s ∷ ts))) (option_append bar t))
    ∙ ap (λ b. with_last (u ∷ s ∷ ts) b t) (sym (not_first u (s ∷ ts)))

module _ {T : Type 0} (text : T → Option (List ℕ)) where
  joined_text-push : (vs : List T) (v : T) → joined_text (map text (vs ++ v ∷ [])) ≡ with_last (map text vs) (length vs == 0) (text v)
  joined_text-push vs v = ap joined_text (map-append text vs (v ∷ [])) ∙ joined_text-more (map text vs) (text v) ∙ ap (λ n. with_last (map text vs) (n == 0) (text v)) (length-map vs text)

  module _ {W : Type 0} (took : W → List ℕ → W → Type 0) where
    -- after the texts of some values, a separator and the text of one more, the texts of all are written
    pub writes_one_more : (vs : List T) (v : T) (is_first : Bool) (f g h k : Formatter W) → is_first ≡ (length vs == 0) → DisplaysOnOk took f (Ok tt) (joined_text (map text vs)) g → DisplaysOnOk took g (Ok tt) (Some (separator is_first)) h → DisplaysOnOk took h (Ok tt) (text v) k → DisplaysOnOk took f (Ok tt) (joined_text (map text (vs ++ v ∷ []))) k
    unfolding with_last
    writes_one_more vs v is_first f g h k first before between value =
        subst (λ o. DisplaysOnOk took f (Ok tt) o k) (ap (λ b. with_last (map text vs) b (text v)) first ∙ sym (joined_text-push vs v))
        (displays_on_IsOk_append took f g k (Ok tt) (Ok tt) (joined_text (map text vs)) _ (λ ok. ok) before
        (displays_on_IsOk_append took g h k (Ok tt) (Ok tt) (Some (separator is_first)) (text v) (λ ok. ok) between value))

-- ---- the text of a value, by its bit

append-unknown : (t : Option (List ℕ)) → option_append t None ≡ None
append-unknown None = refl
append-unknown (Some t) = refl

-- the first text is not known, or it is the second
abbrev pub Tells : Option (List ℕ) → Option (List ℕ) → Type 0
Tells o p = (o ≡ None) ⊎ (o ≡ p)

Tells-append : (t o u p : Option (List ℕ)) → Tells t u → Tells o p → Tells (option_append t (option_append (Some (codes " | ")) o)) (option_append u (option_append (Some (codes " | ")) p))
Tells-append t o u p (inl none) rest = inl (ap (λ a. option_append a (option_append (Some (codes " | ")) o)) none)
Tells-append t o u p (inr same) (inl none) = inl (ap (λ a. option_append t (option_append (Some (codes " | ")) a)) none ∙ append-unknown t)
Tells-append t o u p (inr same) (inr also) = inr (λ i. option_append (same i) (option_append (Some (codes " | ")) (also i)))

module _ {T I : Type 0} (text : T → Option (List ℕ)) (bit : T → I) (at : I → Option (List ℕ)) (tells : (v : T) → Tells (at (bit v)) (text v)) where
  joined_text-tells : (vs : List T) → Tells (joined_text (map at (map bit vs))) (joined_text (map text vs))
  joined_text-tells [] = inr refl
  joined_text-tells (v ∷ []) = tells v
  joined_text-tells (v ∷ w ∷ vs) = Tells-append _ _ _ _ (tells v) (joined_text-tells (w ∷ vs))

  -- what was written for values is the text of their bits
  pub writes_at : {W : Type 0} (took : W → List ℕ → W → Type 0) (vs : List T) (bs : List I) (f g : Formatter W) → map bit vs ≡ bs → DisplaysOnOk took f (Ok tt) (joined_text (map text vs)) g → DisplaysOnOk took f (Ok tt) (joined_text (map at bs)) g
  writes_at took vs bs f g are wrote = subst (λ xs. DisplaysOnOk took f (Ok tt) (joined_text (map at xs)) g) are (by (joined_text-tells vs))
    where
      by : Tells (joined_text (map at (map bit vs))) (joined_text (map text vs)) → DisplaysOnOk took f (Ok tt) (joined_text (map at (map bit vs))) g
      by (inl none) = subst (λ o. DisplaysOnOk took f (Ok tt) o g) (sym none) tt
      by (inr same) = subst (λ o. DisplaysOnOk took f (Ok tt) o g) (sym same) wrote

module _ {T : Type 0} (bit : T → ℕ) where
  value_of-bit : (vs : List T) (b : ℕ) (w : T) → value_of bit vs b ≡ Some w → bit w ≡ b
  value_of-bit [] b w found = absurd (cc)
  value_of-bit (v ∷ vs) b w found = let later = value_of-bit vs b w in grind (arith, nat_tests)

  -- the text of a value's bit is the text of the value, since no other value has the bit
  pub text_at-tells : ((v w : T) → bit v ≡ bit w → v ≡ w) → (values : List T) (text : T → Option (List ℕ)) (v : T) → Tells (text_at bit values text (bit v)) (text v)
  text_at-tells one values text v = elim (value_of bit values (bit v)) as (λ o. value_of bit values (bit v) ≡ o → Tells (option_and_then text o) (text v)) [
    | None ↦ λ none. inl refl
    | Some w ↦ λ found. inr (ap text (one w v (value_of-bit values (bit v) w found)))
  ] refl

-- ---- the text of a set if the text of each valid bit is known

-- whether a text is known and is the given one
abbrev pub is_text : Option (List ℕ) → List ℕ → Bool
is_text None text = false
is_text (Some t) text = bytes_eq t text

is_text-same : (o : Option (List ℕ)) (text : List ℕ) → is_text o text ≡ true → o ≡ Some text
is_text-same None text same = absurd (cc)
is_text-same (Some t) text same = ap Some ((bytes_eq-Decides t text).0 same)

module _ (at : ℕ → Option (List ℕ)) (text : ℕ → List ℕ) where
  joined_text-known : (bs : List ℕ) → list_all (λ b. is_text (at b) (text b)) bs ≡ true → joined_text (map at bs) ≡ Some (join_by text (codes " | ") bs)
  joined_text-known [] known = refl
  joined_text-known (b ∷ []) known = is_text-same (at b) (text b) (and_parts _ _ known).0 ∙ ap Some (sym (append-nil (text b)))
  joined_text-known (b ∷ c ∷ bs) known =
      let bar = codes " | " in
      let parts = and_parts (is_text (at b) (text b)) _ known in
      let rest = flat_map (λ d. bar ++ text d) bs in
      (λ i. option_append (is_text-same (at b) (text b) parts.0 i) (option_append (Some bar) (joined_text-known (c ∷ bs) parts.1 i)))
      ∙ ap (λ t. Some (text b ++ t)) (sym (append_assoc bar (text c) rest))

-- The text of a set: the texts of its members, joined by ` | `. The premise computes for a given enum. The equation
-- `ascending s ≡ ascending s` shows the search which set it is about.
pub text_of_known : {T : Type 0} (elements : Elements T) (values : List T) (output : T → Option (List ℕ)) (text : ℕ → List ℕ) → list_all (λ b. is_text (text_at elements.bit values output b) (text b)) elements.bit_list ≡ true → (s : BitSet) → (ascending s ≡ ascending s) × (is_subset s (valid_bits elements) ≡ true → joined_text (map (text_at elements.bit values output) (ascending s)) ≡ Some (join_by text (codes " | ") (ascending s)))
text_of_known elements values output text known s =
    let at = text_at elements.bit values output in
    let is_known : ℕ → Bool = λ b. is_text (at b) (text b) in
    let each : is_subset s (valid_bits elements) ≡ true → list_all is_known (ascending s) ≡ true = λ within. list_all_each is_known (ascending s) (λ q one. list_all_any is_known elements.bit_list q known (sym (is_valid_bit elements q) ∙ is_subset_contains s (valid_bits elements) within q (contains_ascending s q ∙ one))) in
    (refl, λ within. joined_text-known at text (ascending s) (each within))
