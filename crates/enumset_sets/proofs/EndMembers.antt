-- The least and the greatest member of a set of valid bits, and the set without it.
use Rattle.std.proofs.Common.{◌≡◌, ◌<◌, ℕ, true, ◌∷◌, [], ◌++◌, Some, None, sym, ap, ◌∙◌, length, arith}
use Rattle.std.proofs.lemmas.Bool.Decides.{nat_tests}
use Rattle.enumset_repr.specs.BitSet.{BitSet, is_in, contains, ascending, empty, insert, remove, len, is_subset, difference, below}
use Rattle.enumset_repr.specs.Ends.{least, greatest}
use Rattle.enumset_repr.specs.Laws.Algebra.{insert_remove, toggled}
use Rattle.enumset_repr.specs.Laws.Ascending.{len_ascending, empty_of_ascending}
use Rattle.enumset_repr.specs.Laws.Ends.{least_facts, greatest_facts, ascending_least, ascending_greatest, fewer_greatest, ascending_no_least, ascending_no_greatest}
use Rattle.enumset_repr.specs.Laws.Members.{members, subsets, is_subset_contains, difference_is_subset}
use Rattle.enumset_sets.specs.Elements.{Elements, valid_bits}
use Rattle.enumset_sets.specs.Laws.Elements.{is_valid_bit}

-- a set without a least member is empty, and so is one without a greatest
pub no_least : (s : BitSet) → None ≡ least s → (ascending s ≡ []) × (s ≡ empty)
no_least s is = let none = ascending_no_least s (sym is) in (none, empty_of_ascending s none)

pub no_greatest : (s : BitSet) → None ≡ greatest s → (ascending s ≡ []) × (s ≡ empty)
no_greatest s is = let none = ascending_no_greatest s (sym is) in (none, empty_of_ascending s none)

module _ (s : BitSet) (b : ℕ) where
  -- a member is in the list of the valid bits
  valid : {T : Type 0} (elements : Elements T) → is_subset s (valid_bits elements) ≡ true → contains s b ≡ true → is_in b elements.bit_list ≡ true
  valid elements sub one = sym (is_valid_bit elements b) ∙ is_subset_contains s (valid_bits elements) sub b one

  pub least_valid : {T : Type 0} (elements : Elements T) → is_subset s (valid_bits elements) ≡ true → Some b ≡ least s → is_in b elements.bit_list ≡ true
  least_valid elements sub is = valid elements sub (least_facts s b (sym is)).0

  pub greatest_valid : {T : Type 0} (elements : Elements T) → is_subset s (valid_bits elements) ≡ true → Some b ≡ greatest s → is_in b elements.bit_list ≡ true
  greatest_valid elements sub is = valid elements sub (greatest_facts s b (sym is)).0

  module _ (t : BitSet) (c : ℕ) (rest : t ≡ remove s b) (same : c ≡ b) where
    put_back : contains s b ≡ true → s ≡ insert t c
    put_back one = sym (insert_remove s b one) ∙ (λ i. insert (sym rest i) (sym same i))

    pub least_taken : Some b ≡ least s → (ascending s ≡ c ∷ ascending t) × (s ≡ insert t c) × (len t < len s)
    least_taken is =
        let listed : ascending s ≡ c ∷ ascending t = ascending_least s b (sym is) ∙ (λ i. sym same i ∷ ascending (sym rest i)) in
        (listed, put_back (least_facts s b (sym is)).0, omega (arith, ap length listed, len_ascending s, len_ascending t))

    pub greatest_taken : Some b ≡ greatest s → (ascending s ≡ ascending t ++ c ∷ []) × (s ≡ insert t c) × (len t < len s)
    greatest_taken is = (
      ascending_greatest s b (sym is) ∙ (λ i. ascending (sym rest i) ++ sym same i ∷ []),
      put_back (greatest_facts s b (sym is)).0,
      omega (arith, fewer_greatest s b (sym is), ap len rest, len_ascending s, len_ascending (remove s b)),
    )

pub least_from_valid : {T : Type 0} (s : BitSet) (b : ℕ) (elements : Elements T) (from : ℕ) → is_subset s (valid_bits elements) ≡ true → Some b ≡ least (difference s (below from)) → is_in b elements.bit_list ≡ true
least_from_valid s b elements from sub = least_valid (difference s (below from)) b elements (difference_is_subset _ s (below from) sub)

-- what `first`, `last` and the like need to name an element, and what `toggle` needs
pub ruleset valid_ends = (subsets, least_valid, least_from_valid, greatest_valid)

pub ruleset toggles = (members, nat_tests, toggled)
