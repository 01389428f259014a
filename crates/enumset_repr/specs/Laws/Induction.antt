-- Induction over sets.
--     set_induction      by insertion: the empty set, and an absent number inserted
--     set_induction_least, set_induction_greatest      by the least member, by the greatest:  the empty set, and a set
--         from the set without this member
--     set_induction_subsets      strong: each set from its proper subsets
use Rattle.std.proofs.Common.{◌≡◌, ◌<◌, ℕ, suc, zero, true, false, Option, Some, None, refl, sym, subst, arith}
use Rattle.enumset_repr.specs.BitSet.{BitSet, contains, len, empty, insert, remove, is_subset, is_same}
use Rattle.enumset_repr.specs.Ends.{least, greatest}
use Rattle.enumset_repr.specs.Laws.Algebra.{contains_removed, insert_remove}
use Rattle.enumset_repr.specs.Laws.Ascending.{empty_of_ascending, empty_of_len}
use Rattle.enumset_repr.specs.Laws.Counting.{len_removed, len_proper}
use Rattle.enumset_repr.specs.Laws.Ends.{least_facts, greatest_facts, ascending_no_least, ascending_no_greatest}

-- `by_least` and `by_greatest` are inductions on the number of members n
module _ (P : BitSet → Type 0) (none : P empty) where
  by_least : ((s : BitSet) (m : ℕ) → least s ≡ Some m → P (remove s m) → P s) → (n : ℕ) (s : BitSet) → len s ≡ n → P s
  by_least step zero s is = subst P (sym (empty_of_len s is)) none
  by_least step (suc n) s is = at (least s) refl (by_least step n) where
    at : (o : Option ℕ) → least s ≡ o → ((t : BitSet) → len t ≡ n → P t) → P s
    at None lacks fewer = subst P (sym (empty_of_ascending s (ascending_no_least s lacks))) none
    at (Some m) first fewer = step s m first (fewer (remove s m) (omega (arith, len_removed s m (least_facts s m first).0, is)))

  by_greatest : ((s : BitSet) (m : ℕ) → greatest s ≡ Some m → P (remove s m) → P s) → (n : ℕ) (s : BitSet) → len s ≡ n → P s
  by_greatest step zero s is = subst P (sym (empty_of_len s is)) none
  by_greatest step (suc n) s is = at (greatest s) refl (by_greatest step n) where
    at : (o : Option ℕ) → greatest s ≡ o → ((t : BitSet) → len t ≡ n → P t) → P s
    at None lacks fewer = subst P (sym (empty_of_ascending s (ascending_no_greatest s lacks))) none
    at (Some m) last fewer = step s m last (fewer (remove s m) (omega (arith, len_removed s m (greatest_facts s m last).0, is)))

  -- P is true of each set if it is true of the empty set, and of each set where it is true without the least member
  pub set_induction_least : ((s : BitSet) (m : ℕ) → least s ≡ Some m → P (remove s m) → P s) → (s : BitSet) → P s
  set_induction_least step s = by_least step (len s) s refl

  -- P is true of each set if it is true of the empty set, and of each set where it is true without the greatest member
  pub set_induction_greatest : ((s : BitSet) (m : ℕ) → greatest s ≡ Some m → P (remove s m) → P s) → (s : BitSet) → P s
  set_induction_greatest step s = by_greatest step (len s) s refl

  -- P is true of each set if it is true of the empty set, and stays true where an absent number is inserted
  pub set_induction : ((s : BitSet) (b : ℕ) → contains s b ≡ false → P s → P (insert s b)) → (s : BitSet) → P s
  set_induction step = set_induction_least (λ s m first rest.
      subst P (insert_remove s m (least_facts s m first).0) (step (remove s m) m (contains_removed s m) rest))

-- strong induction: P is true of each set if it is true of each set of whose proper subsets it is true
pub set_induction_subsets : (P : BitSet → Type 0) → ((s : BitSet) → ((t : BitSet) → is_subset t s ≡ true → is_same t s ≡ false → P t) → P s) → (s : BitSet) → P s
set_induction_subsets P step s = below (suc (len s)) s (omega arith) where
  below : (n : ℕ) (t : BitSet) → len t < n → P t
  below zero t fewer = absurd (omega (arith, fewer))
  below (suc n) t fewer = step t (λ u within other. below n u (omega (arith, len_proper u t within other, fewer)))
