-- The registers of a machine.
--     State      four sets, and for each of two iterators the list of what is left
--     coded_state      the code that lets a state be a model's value
--     start      four empty sets and two empty lists
--     set_at, list_at      the set in a register;  the list in an iterator register
--     put_set, put_list      a state where a register has a new set, a new list
--     is_set_register, is_iterator_register      whether there is such a register
use Rattle.std.specs.Prelude.{ℕ, Bool, nat_lt, List, [], ◌∷◌, slice_set, refl}
use Rattle.std.specs.List.{slice_index_or}
use Rattle.std.specs.Coded.{Coded, code_by, coded×, coded_list, coded_ℕ}
use Rattle.enumset_repr.specs.BitSet.{BitSet, coded_set, empty}

-- the sets in the set registers, and what is left in each iterator register
pub record State : Type 0 where
  pub sets : List BitSet
  pub lists : List (List ℕ)

-- a state is stored as the pair of its fields
abbrev pub coded_state : Coded State
coded_state =
    code_by (List BitSet × List (List ℕ)) (coded× (coded_list coded_set) (coded_list (coded_list coded_ℕ))) (λ s. (s.sets, s.lists)) (λ p. record { sets = p.0; lists = p.1 }) (λ _. refl)

abbrev pub start : State
start = record { sets = empty ∷ empty ∷ empty ∷ empty ∷ []; lists = [] ∷ [] ∷ [] }

abbrev pub set_at : State → ℕ → BitSet
set_at s r = slice_index_or s.sets r empty

abbrev pub list_at : State → ℕ → List ℕ
list_at s i = slice_index_or s.lists i []

abbrev pub put_set : State → ℕ → BitSet → State
put_set s r new = record s { sets = slice_set s.sets r new }

abbrev pub put_list : State → ℕ → List ℕ → State
put_list s i new = record s { lists = slice_set s.lists i new }

abbrev pub is_set_register : ℕ → Bool
is_set_register r = nat_lt r 4

abbrev pub is_iterator_register : ℕ → Bool
is_iterator_register i = nat_lt i 2
