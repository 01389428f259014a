-- The name at an index of a list of names, and the bit there.
use Rattle.std.proofs.Common.{◌≡◌, ◌<◌, ℕ, suc, zero, Bool, true, List, [], ◌∷◌, length, map, get_or, refl, sym, ap, ◌∙◌, arith, true≢false, ◌==◌, zip, eq-eqb}
use Rattle.std.proofs.lemmas.Bool.{not-true, and_parts, or_left, or_right, cond-true, cond-false, false_from_ne_true}
use Rattle.std.proofs.lemmas.List.{length-map, get_or-map}
use Rattle.std.specs.List.{list_any}
use Rattle.enumset_repr.specs.Number.{is_distinct}
use Rattle.enumset.specs.Names.{name_of}

-- a test that passes for the bit of an entry passes for one of all bits
bit_passes : (p : ℕ → Bool) (bs : List ℕ) (names : List (List ℕ)) (i : ℕ) (d : ℕ × List ℕ) → i < length (zip bs names) → p (get_or (zip bs names) i d).0 ≡ true → list_any p bs ≡ true
bit_passes p (b ∷ bs) (n ∷ names) zero d within is = or_left (p b) _ is
bit_passes p (b ∷ bs) (n ∷ names) (suc i) d within is = or_right (p b) _ (bit_passes p bs names i d (omega (arith, within)) is)
bit_passes p [] names i d within is = absurd (omega (arith, within))
bit_passes p (b ∷ bs) [] i d within is = absurd (omega (arith, within))

-- if no bit occurs twice, the name of a bit is the name in its entry
name_at : (bs : List ℕ) (names : List (List ℕ)) (i : ℕ) (d : ℕ × List ℕ) → is_distinct bs ≡ true → i < length (zip bs names) → name_of (zip bs names) (get_or (zip bs names) i d).0 ≡ (get_or (zip bs names) i d).1
name_at (b ∷ bs) (n ∷ names) zero d apart within = cond-true (b == b) n _ (eq-eqb b b refl)
name_at (b ∷ bs) (n ∷ names) (suc i) d apart within =
    let c = (get_or (zip bs names) i d).0 in
    cond-false (b == c) n _ (false_from_ne_true _ (λ same. true≢false (sym (bit_passes (λ q. b == q) bs names i d (omega (arith, within)) same) ∙ not-true _ (and_parts _ _ apart).0)))
    ∙ name_at bs names i d (and_parts _ _ apart).1 (omega (arith, within))
name_at [] names i d apart within = absurd (omega (arith, within))
name_at (b ∷ bs) [] i d apart within = absurd (omega (arith, within))

-- ---- the entry at a place of the list that the code has

module _ {A : Type 0} (named : A → ℕ × List ℕ) (xs : List A) (bs : List ℕ) (names : List (List ℕ)) (all : map named xs ≡ zip bs names) (i : ℕ) (x : A) (within : i < length xs) (is : x ≡ get_or xs i x) where
  entry : get_or (zip bs names) i (named x) ≡ named x
  entry = ap (λ ns. get_or ns i (named x)) (sym all) ∙ get_or-map named xs i x (named x) within ∙ ap named (sym is)

  inside : i < length (zip bs names)
  inside = omega (arith, within, length-map xs named, ap length all)

  pub name_there : is_distinct bs ≡ true → name_of (zip bs names) (named x).0 ≡ (named x).1
  name_there apart = ap (λ e. name_of (zip bs names) e.0) (sym entry) ∙ name_at bs names i (named x) apart inside ∙ ap (λ e. e.1) entry
