-- A bit's name is the name of no other bit.
use Rattle.std.proofs.Common.{◌≡◌, ℕ, Bool, true, false, cond, Some, None, List, [], ◌∷◌, length, refl, sym, ap, ◌∙◌, arith, true≢false, inl, inr, ◌==◌, ◌||◌, zip, bytes_eq, eqb-true, eq-eqb, ne_eqb}
use Rattle.std.proofs.lemmas.Bool.{or_left, or_right, and_parts, and_from, not-true, cases_Bool, cond-true, cond-false, false_from_ne_true}
use Rattle.std.proofs.lemmas.Bool.Decides.{nat_tests}
use Rattle.std.proofs.lemmas.Slice.Eq.{bytes_eq-Decides}
use Rattle.std.specs.Bool.{beq}
use Rattle.std.specs.Cmp.{booleans_Decides}
use Rattle.std.specs.List.{list_any, list_all}
use Rattle.enumset_repr.specs.BitSet.{is_in}
use Rattle.enumset_repr.specs.Number.{is_distinct}
use Rattle.enumset_sets.specs.Laws.Elements.{passed}
use Rattle.enumset.specs.Names.{Names, name_of, bit_named, names_agree, are_distinct, IsNaming, NameCountShouldBe, NamesAValueTwice}

-- ---- the test

-- what is known if the test passes
pub record AreNames (bs : List ℕ) (names : List (List ℕ)) : Type 0 where
  pub as_many : length names ≡ length bs
  pub distinct : are_distinct names ≡ true

pub IsNaming-passes : (bs : List ℕ) (names : List (List ℕ)) → IsNaming bs names → AreNames bs names
IsNaming-passes bs names test =
    let a = passed (length names == length bs) (NameCountShouldBe (length bs)) _ (λ h. elim h [ ]) test in
    let b = passed (are_distinct names) NamesAValueTwice _ (λ h. elim h [ ]) a.1 in
    record { as_many = eqb-true _ _ a.0; distinct = b.0 }

-- ---- a bit's name

later_in : (b c : ℕ) (later : Bool) → (c == b) ≡ false → ((b == c) || later) ≡ true → later ≡ true
later_in b c later other one = grind (arith, nat_tests)

-- a test that the name of a bit passes, and a test that all bits with their names pass
name_listed : (p : List ℕ → Bool) (bs : List ℕ) (names : List (List ℕ)) (b : ℕ) → length names ≡ length bs → is_in b bs ≡ true → p (name_of (zip bs names) b) ≡ true → list_any p names ≡ true
name_listed p (c ∷ bs) (n ∷ names) b len one is = elim (cases_Bool (c == b)) [
  | inl here ↦ or_left (p n) _ (ap p (sym (cond-true (c == b) n _ here)) ∙ is)
  | inr other ↦ or_right (p n) _ (name_listed p bs names b (omega (arith, len)) (later_in b c _ other one) (ap p (sym (cond-false (c == b) n _ other)) ∙ is))
]
name_listed p bs names b len one is = absurd (grind (arith, len, one))

listed : (p : ℕ × List ℕ → Bool) (bs : List ℕ) (names : List (List ℕ)) (b : ℕ) → length names ≡ length bs → is_in b bs ≡ true → list_all p (zip bs names) ≡ true → p (b, name_of (zip bs names) b) ≡ true
listed p (c ∷ bs) (n ∷ names) b len one all = elim (cases_Bool (c == b)) [
  | inl here ↦ (λ j. p (sym (eqb-true c b here) j, cond-true (c == b) n (name_of (zip bs names) b) here j)) ∙ (and_parts _ _ all).0
  | inr other ↦ (λ j. p (b, cond-false (c == b) n (name_of (zip bs names) b) other j)) ∙ listed p bs names b (omega (arith, len)) (later_in b c _ other one) (and_parts _ _ all).1
]
listed p bs names b len one all = absurd (grind (arith, len, one))

pub name_back : (bs : List ℕ) (names : List (List ℕ)) (b : ℕ) → AreNames bs names → is_in b bs ≡ true → bit_named (zip bs names) (name_of (zip bs names) b) ≡ Some b
name_back bs names b are = at bs names are.as_many are.distinct
  where
    at : (bs : List ℕ) (names : List (List ℕ)) → length names ≡ length bs → are_distinct names ≡ true → is_in b bs ≡ true → bit_named (zip bs names) (name_of (zip bs names) b) ≡ Some b
    at (c ∷ bs) (n ∷ names) len apart one = elim (cases_Bool (c == b)) [
      | inl here ↦
          ap (bit_named (zip (c ∷ bs) (n ∷ names))) (cond-true (c == b) n _ here)
          ∙ cond-true (bytes_eq n n) (Some c) _ ((bytes_eq-Decides n n).1 refl) ∙ ap Some (eqb-true c b here)
      | inr other ↦ let rest = later_in b c _ other one in
          ap (bit_named (zip (c ∷ bs) (n ∷ names))) (cond-false (c == b) n _ other)
          ∙ cond-false (bytes_eq n (name_of (zip bs names) b)) (Some c) _ (false_from_ne_true _ (λ same.
          true≢false (sym (name_listed (λ m. bytes_eq m n) bs names b (omega (arith, len)) rest ((bytes_eq-Decides _ n).1 (sym ((bytes_eq-Decides n _).0 same)))) ∙ not-true _ (and_parts _ _ apart).0)))
          ∙ at bs names (omega (arith, len)) (and_parts _ _ apart).1 rest
    ]
    at bs names len apart one = absurd (grind (arith, len, one))

-- no other text is the name of a bit
pub name_alone : (bs : List ℕ) (names : List (List ℕ)) (b : ℕ) (t : List ℕ) → is_distinct bs ≡ true → bit_named (zip bs names) t ≡ Some b → (is_in b bs ≡ true) × (t ≡ name_of (zip bs names) b)
name_alone (c ∷ bs) (n ∷ names) b t apart is = elim (cases_Bool (bytes_eq n t)) [
  | inl here ↦
      let found : Some c ≡ Some b = sym (cond-true (bytes_eq n t) (Some c) _ here) ∙ is in
      let same : c ≡ b = cc in
      (or_left (b == c) _ (eq-eqb b c (sym same)), sym ((bytes_eq-Decides n t).0 here) ∙ sym (cond-true (c == b) n _ (eq-eqb c b same)))
  | inr other ↦
      let rest = name_alone bs names b t (and_parts _ _ apart).1 (sym (cond-false (bytes_eq n t) (Some c) _ other) ∙ is) in
      let differs : (c ≡ b) → ⊥ = λ same. true≢false (sym rest.0 ∙ ap (λ x. is_in x bs) (sym same) ∙ not-true _ (and_parts _ _ apart).0) in
      (or_right (b == c) _ rest.0, rest.1 ∙ sym (cond-false (c == b) n _ (ne_eqb c b differs)))
]
name_alone bs names b t apart is = absurd (cc)

-- ---- the names of two types

-- a name that agrees with each of a type's names with its bit is the name of that bit, if the type has it
named_as : (bs : List ℕ) (names : List (List ℕ)) (b : ℕ) (t : List ℕ) → length names ≡ length bs → list_all (λ n. beq (n.0 == b) (bytes_eq n.1 t)) (zip bs names) ≡ true
    → bit_named (zip bs names) t ≡ cond (is_in b bs) (Some b) None
named_as [] names b t len agree = refl
named_as (c ∷ bs) [] b t len agree = absurd (omega (arith, len))
named_as (c ∷ bs) (n ∷ names) b t len agree =
    let alike : bytes_eq n t ≡ (c == b) = sym ((booleans_Decides (c == b) (bytes_eq n t)).0 (and_parts _ _ agree).0) in
    ap (λ x. cond x (Some c) (bit_named (zip bs names) t)) alike ∙ at c b (is_in b bs) (named_as bs names b t (omega (arith, len)) (and_parts _ _ agree).1)
  where
    at : (c b : ℕ) (later : Bool) → bit_named (zip bs names) t ≡ cond later (Some b) None → cond (c == b) (Some c) (bit_named (zip bs names) t) ≡ cond ((b == c) || later) (Some b) None
    at c b later rest = grind (arith, nat_tests, rest)

-- if the names of two types agree, the name of a bit of the second is known to the first exactly if it has this bit
pub agree_at : (os : List ℕ) (olds : List (List ℕ)) (bs : List ℕ) (names : List (List ℕ)) (b : ℕ) → AreNames os olds → AreNames bs names → names_agree (zip os olds) (zip bs names) ≡ true → is_in b bs ≡ true
    → bit_named (zip os olds) (name_of (zip bs names) b) ≡ cond (is_in b os) (Some b) None
agree_at os olds bs names b old are agree one = named_as os olds b _ old.as_many (each (zip os olds) agree)
  where
    each : (ns : Names) → names_agree ns (zip bs names) ≡ true → list_all (λ n. beq (n.0 == b) (bytes_eq n.1 (name_of (zip bs names) b))) ns ≡ true
    each [] agree = refl
    each (n ∷ ns) agree = and_from _ _ (listed (λ m. beq (n.0 == m.0) (bytes_eq n.1 m.1)) bs names b are.as_many one (and_parts _ _ agree).0) (each ns (and_parts _ _ agree).1)
