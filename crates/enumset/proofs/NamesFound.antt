-- A name among the names of a type, looked for in a later part of the list, then in the part before.
use Rattle.std.proofs.Common.{◌≡◌, ℕ, true, false, cond, Some, None, List, [], ◌∷◌, ◌++◌, length, map, take, drop, sym, ap, subst, ◌∙◌, arith, zip, bytes_eq, take-append-drop}
use Rattle.std.proofs.lemmas.Bool.{and_parts, not-true}
use Rattle.std.proofs.lemmas.List.{map-append}
use Rattle.std.proofs.lemmas.Slice.Eq.{bytes_eq-Decides}
use Rattle.std.proofs.lemmas.Slice.Zip.{seconds-zip}
use Rattle.std.specs.List.{list_any}
use Rattle.enumset.specs.Names.{Names, bit_named, are_distinct}

texts : Names → List (List ℕ)
texts ns = map (λ n. n.1) ns

among : (ns : Names) (t : List ℕ) (b : ℕ) → bit_named ns t ≡ Some b → list_any (λ m. bytes_eq m t) (texts ns) ≡ true
unfolding texts
among (n ∷ ns) t b is = grind (arith, is, among ns t b)
among [] t b is = absurd (cc)

-- if no name occurs twice, a name that is found in the later part is the first of this name in the whole list
later_at : (xs ys : Names) (t : List ℕ) (b : ℕ) → are_distinct (texts (xs ++ ys)) ≡ true → bit_named ys t ≡ Some b → bit_named (xs ++ ys) t ≡ Some b
unfolding texts
later_at [] ys t b apart is = is
later_at (x ∷ xs) ys t b apart is =
    let rest = later_at xs ys t b (and_parts _ _ apart).1 is in
    let twice : x.1 ≡ t → list_any (λ m. bytes_eq m t) (texts (xs ++ ys)) ≡ false = λ same. subst (λ u. list_any (λ m. bytes_eq m u) (texts (xs ++ ys)) ≡ false) same (not-true _ (and_parts _ _ apart).0) in
    grind (arith, rest, among (xs ++ ys) t b rest, twice, bytes_eq-Decides x.1 t)

earlier_at : (xs ys : Names) (t : List ℕ) → bit_named ys t ≡ None → bit_named (xs ++ ys) t ≡ bit_named xs t
earlier_at [] ys t none = none
earlier_at (x ∷ xs) ys t none = ap (λ o. cond (bytes_eq x.1 t) (Some x.0) o) (earlier_at xs ys t none)

-- what the two searches find in the names of a type, cut in two
module _ (bs : List ℕ) (names : List (List ℕ)) (xs ys : Names) (t : List ℕ) (whole : xs ++ ys ≡ zip bs names) where
  pub found_later : length names ≡ length bs → are_distinct names ≡ true → (b : ℕ) → bit_named ys t ≡ Some b → bit_named (zip bs names) t ≡ Some b
  unfolding texts
  found_later len apart b is = ap (λ ns. bit_named ns t) (sym whole) ∙ later_at xs ys t b (ap are_distinct (ap texts whole ∙ seconds-zip bs names len) ∙ apart) is

  pub found_earlier : bit_named ys t ≡ None → bit_named (zip bs names) t ≡ bit_named xs t
  found_earlier none = ap (λ ns. bit_named ns t) (sym whole) ∙ earlier_at xs ys t none

-- the two parts of a list make the list
pub cut : {A : Type 0} (named : A → ℕ × List ℕ) (all front back : List A) (i : ℕ) → front ≡ take i all → back ≡ drop i all → map named front ++ map named back ≡ map named all
cut named all front back i first rest = sym (map-append named front back) ∙ ap (map named) ((λ j. first j ++ rest j) ∙ take-append-drop i all)
