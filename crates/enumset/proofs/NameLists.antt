-- Names, looked up along a list.
use Rattle.std.proofs.Common.{◌≡◌, ◌<◌, ◌+◌, ℕ, Some, List, ◌∷◌, map, drop, length, get_or, sym, ap, ◌∙◌, ◌==◌, if◌then◌else◌, bytes_eq}
use Rattle.std.proofs.lemmas.List.{drop_more}
use Rattle.enumset.specs.Names.{name_of, bit_named}

-- the rest of a list from an element on
pub left_at : {A : Type 0} (xs : List A) (i : ℕ) (x : A) → i < length xs → x ≡ get_or xs i x → drop i xs ≡ x ∷ drop (i + 1) xs
left_at xs i x within is = drop_more xs i x within ∙ ap (λ y. y ∷ drop (i + 1) xs) (sym is)

module _ {A : Type 0} (named : A → ℕ × List ℕ) (xs ys : List A) (x : A) (left : xs ≡ x ∷ ys) where
  pub name_first : (b : ℕ) → name_of (map named xs) b ≡ (if (named x).0 == b then (named x).1 else name_of (map named ys) b)
  name_first b = ap (λ zs. name_of (map named zs) b) left

  pub bit_first : (text : List ℕ) → bit_named (map named xs) text ≡ (if bytes_eq (named x).1 text then Some (named x).0 else bit_named (map named ys) text)
  bit_first text = ap (λ zs. bit_named (map named zs) text) left
