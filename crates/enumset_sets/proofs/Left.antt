-- The bits that an iterator has left.
--     after_first, after_last      what a step from an end leaves
--     few_left      these bits are no more than the numbers below which the valid bits are
use Rattle.std.proofs.Common.{◌≡◌, ◌≤◌, ℕ, suc, List, [], ◌∷◌, ◌++◌, Option, Some, None, MatchOption, length, ap, subst, sym, ◌∙◌, true, true≢false, arith}
use Rattle.std.proofs.lemmas.Bool.Decides.{nat_tests}
use Rattle.enumset_repr.specs.BitSet.{is_in, from_list, is_subset, below}
use Rattle.enumset_repr.specs.Laws.Algebra.{is_subset_trans}
use Rattle.enumset_repr.specs.Laws.Ascending.{ascends_lower, len_below}
use Rattle.enumset_repr.specs.Laws.Members.{contains_from_list, contains_is_subset}
use Rattle.enumset_sets.specs.Elements.{Elements, valid_bits, AreLeft, AreBitsOf}
use Rattle.enumset_sets.specs.Laws.Calls.{ascends_front, len_left}
use Rattle.enumset_sets.specs.Laws.Elements.{is_valid_bit}

none_left : (bit_list : List ℕ) → AreLeft [] bit_list
unfolding AreBitsOf
none_left bit_list = record { ascends = tt; valid = grind arith }

without_first : (b : ℕ) (bs bit_list : List ℕ) → AreLeft (b ∷ bs) bit_list → AreLeft bs bit_list
unfolding AreBitsOf
without_first b bs bit_list left = record { ascends = ascends_lower 0 (suc b) bs (omega arith) left.ascends.1; valid = grind (arith, left.valid) }

front_valid : (b : ℕ) (bs bit_list : List ℕ) → AreBitsOf (bs ++ b ∷ []) bit_list → AreBitsOf bs bit_list
unfolding AreBitsOf
front_valid b [] bit_list valid = grind arith
front_valid b (c ∷ bs) bit_list valid = let later = front_valid b bs bit_list in grind (arith, valid)

module _ (bit_list bs cs : List ℕ) where
  pub after_first : (r : Option ℕ) → MatchOption r ((bs ≡ []) × (cs ≡ [])) (λ b. bs ≡ b ∷ cs) → AreLeft bs bit_list → AreLeft cs bit_list
  after_first None none left = subst (λ ds. AreLeft ds bit_list) (sym none.1) (none_left bit_list)
  after_first (Some b) step left = without_first b cs bit_list (subst (λ ds. AreLeft ds bit_list) step left)

  pub after_last : (r : Option ℕ) → MatchOption r ((bs ≡ []) × (cs ≡ [])) (λ b. bs ≡ cs ++ b ∷ []) → AreLeft bs bit_list → AreLeft cs bit_list
  after_last None none left = subst (λ ds. AreLeft ds bit_list) (sym none.1) (none_left bit_list)
  after_last (Some b) step left =
      let all = subst (λ ds. AreLeft ds bit_list) step left in
      record { ascends = ascends_front 0 b cs [] all.ascends; valid = front_valid b cs bit_list all.valid }

-- ---- the set of what is left

each_valid : (q : ℕ) (bs bit_list : List ℕ) → AreBitsOf bs bit_list → is_in q bs ≡ true → is_in q bit_list ≡ true
unfolding AreBitsOf
each_valid q [] bit_list valid one = absurd (true≢false (sym one))
each_valid q (b ∷ bs) bit_list valid one =
    let later = each_valid q bs bit_list in
    let same = λ (e : q ≡ b). ap (λ c. is_in c bit_list) e in
    grind (arith, nat_tests, valid)

pub few_left : {T : Type 0} (elements : Elements T) (bs : List ℕ) (left : AreLeft bs elements.bit_list) (n : ℕ) → is_subset (valid_bits elements) (below n) ≡ true → length bs ≤ n
few_left elements bs left n within =
    let valid = contains_is_subset (from_list bs) (valid_bits elements) (λ q one. is_valid_bit elements q ∙ each_valid q bs elements.bit_list left.valid (sym (contains_from_list bs q) ∙ one)) in
    subst (λ k. k ≤ n) (len_left bs left.ascends) (len_below (from_list bs) n (is_subset_trans (from_list bs) (valid_bits elements) (below n) valid within))
