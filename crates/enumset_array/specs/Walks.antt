-- Steps from either end of a list.
--     answer      what a step from an end yields: the first item of the list or its last, or None if the list is empty
--     without_answer      the list without the item that a step from an end yields
--     answers, without_answers      what steps from the ends in a list yield, one after another;  the list that they
--         leave
--     items_among      the answers that are not None
--     IsWalk      steps from the ends in a list over some words: what they yield, the items that they leave, and that
--         they make at most one ask for each word and one for each answer that is not None, and so at most one for each
--         word and one for each step
use Rattle.std.specs.Prelude.{◌≡◌, ℕ, ◌+◌, ◌≤◌, List, [], ◌∷◌, length, Option, filter_map}
use Rattle.enumset_repr.specs.Ends.{first, last, without_first, without_last}
use Rattle.enumset_array.specs.declared.traversal.End.{End}
use Rattle.enumset_array.specs.declared.traversal.End.TheVariants.{Front, Back}

abbrev pub answer : End → List ℕ → Option ℕ
answer Front xs = first xs
answer Back xs = last xs

abbrev pub without_answer : End → List ℕ → List ℕ
without_answer Front xs = without_first xs
without_answer Back xs = without_last xs

unfoldable pub answers : List ℕ → List End → List (Option ℕ)
answers xs [] = []
answers xs (e ∷ es) = answer e xs ∷ answers (without_answer e xs) es

unfoldable pub without_answers : List ℕ → List End → List ℕ
without_answers xs [] = xs
without_answers xs (e ∷ es) = without_answers (without_answer e xs) es

unfoldable pub items_among : List (Option ℕ) → List ℕ
items_among rs = filter_map (λ r. r) rs

-- the steps begin with the given items and number of asks, over so many words; their answers are rs, and they end with
-- the items in left and with new_asks asks
pub record IsWalk (items : List ℕ) (asks words : ℕ) (ends : List End) (rs : List (Option ℕ)) (left : List ℕ) (new_asks : ℕ) : Type 0 where
  pub yields : rs ≡ answers items ends
  pub leaves : left ≡ without_answers items ends
  pub steps : new_asks ≤ asks + length ends + words
  pub yielded : new_asks ≤ asks + length (items_among rs) + words
