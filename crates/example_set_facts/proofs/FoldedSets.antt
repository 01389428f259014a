-- The set that a fold over a list makes.
--     elements_folded      elements that are added one by one make the set of their bits
--     sets_folded      sets that are united one by one make the union of them all
use Rattle.std.proofs.Common.{◌≡◌, ℕ, List, [], ◌∷◌, map, fold, sym, ap, ◌∙◌, arith}
use Rattle.enumset.specs.Sets.{BitSet, empty, only, insert, union, union_all, from_list, decided}
use Rattle.enumset_repr.specs.Laws.Algebra.{empty_union}
use Rattle.enumset_sets.specs.Laws.Folds.{union_none}
use Rattle.enumset_sets.specs.Laws.ManySets.{union_all_none, union_all_step}

module _ {A : Type 0} (f : A → ℕ) where
  insert_first : (s t : BitSet) (b : ℕ) → union (union s (only b)) t ≡ union s (insert t b)
  insert_first s t b = grind (arith, decided)

  -- after the elements of a set
  added : (s : BitSet) (xs : List A) → fold (λ all x. union all (only (f x))) s xs ≡ union s (from_list (map f xs))
  unfolding from_list
  added s [] = sym (union_none s)
  added s (x ∷ xs) = added (union s (only (f x))) xs ∙ insert_first s (from_list (map f xs)) (f x)

  pub elements_folded : (xs : List A) → fold (λ all x. union all (only (f x))) empty xs ≡ from_list (map f xs)
  elements_folded xs = added empty xs ∙ empty_union (from_list (map f xs))

module _ {A : Type 0} (f : A → BitSet) where
  -- after the sets united so far
  united : (s : BitSet) (xs : List A) → fold (λ all x. union all (f x)) s xs ≡ union s (union_all (map f xs))
  united s [] = sym (union_all_none s)
  united s (x ∷ xs) = united (union s (f x)) xs ∙ sym (union_all_step s (f x) (map f xs))

  pub sets_folded : (xs : List A) → fold (λ all x. union all (f x)) empty xs ≡ union_all (map f xs)
  sets_folded xs = united empty xs ∙ empty_union (union_all (map f xs))
