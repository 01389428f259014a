-- Steps from both ends of a list, as in `Walks` of `enumset_array`: what each end yielded.
--     from_front, from_back      the items that the steps from the front yielded, in turn;  from the back
use Rattle.std.specs.Prelude.{ℕ, List, [], ◌∷◌, ◌++◌}
use Rattle.std.specs.Option.{option_to_list}
use Rattle.enumset_repr.specs.Ends.{first, last, without_first, without_last}
use Rattle.enumset_array.specs.declared.traversal.End.{End}
use Rattle.enumset_array.specs.declared.traversal.End.TheVariants.{Front, Back}

unfoldable pub from_front : List ℕ → List End → List ℕ
from_front xs [] = []
from_front xs (Front ∷ es) = option_to_list (first xs) ++ from_front (without_first xs) es
from_front xs (Back ∷ es) = from_front (without_last xs) es

unfoldable pub from_back : List ℕ → List End → List ℕ
from_back xs [] = []
from_back xs (Front ∷ es) = from_back (without_first xs) es
from_back xs (Back ∷ es) = option_to_list (last xs) ++ from_back (without_last xs) es
