-- A binary search in a sorted list of sets.
--     between      if it finds nothing, it returns the index between the lesser sets and the greater ones
--     absent      then no set of the list is the wanted one
use Rattle.std.proofs.Common.{◌≡◌, ◌≢◌, ℕ, List, All, Result, Ok, Err, IfErr, ap, sym, ◌∙◌, arith, slice_index_or, Less, Equal, Greater}
use Rattle.std.specs.List.Sorted.{IsSorted, IsNonDecreasingBy, IsPartitionPoint, IsBinarySearchResult}
use Rattle.std.specs.Ordering.{ordering_index, is_lt}
use Rattle.std.proofs.lemmas.List.Sorted.{IsNonDecreasingBy-from_sort}
use Rattle.std.proofs.lemmas.Bool.Decides.{nat_tests}
use Rattle.enumset.specs.Sets.{BitSet, number, compare}
use Rattle.enumset_repr.specs.Laws.Order.{compare_number, compare_itself}

module _ (sets : List BitSet) (wanted : BitSet) (sorted : IsSorted compare sets) where
  numbers_rise : IsNonDecreasingBy number sets
  numbers_rise = IsNonDecreasingBy-from_sort number sets (λ k d low within. ap is_lt (sym (compare_number _ _)) ∙ sorted k d low within)

  comparisons_rise : IsNonDecreasingBy (λ s. ordering_index (compare s wanted)) sets
  comparisons_rise i j d le within =
      let rise = numbers_rise i j d le within in
      let one = compare_number (slice_index_or sets i d) wanted in
      let other = compare_number (slice_index_or sets j d) wanted in
      grind (arith, nat_tests)

  pub between : (r : Result ℕ ℕ) → IsBinarySearchResult (λ s. compare s wanted) sets r → IfErr r (IsPartitionPoint (λ s. compare s wanted ≡ Less) (λ s. compare s wanted ≡ Greater) sets)
  between (Ok i) found = tt
  between (Err i) parted = parted comparisons_rise

  pub absent : (r : Result ℕ ℕ) → IsBinarySearchResult (λ s. compare s wanted) sets r → IfErr r (λ _. All (λ s. s ≢ wanted) sets)
  absent (Ok i) found = tt
  absent (Err i) parted = λ k d within same.
      let part = parted comparisons_rise in
      let itself : compare (slice_index_or sets k d) wanted ≡ Equal = ap (λ s. compare s wanted) same ∙ compare_itself wanted in
      let before = part.0 k d in
      let after = part.1 k d in
      absurd (grind arith)
