-- Inference by rules: each rule has a conclusion, and conditions that must all be met.
--     concluded      what follows from a set by rules
use Rattle.std.specs.Prelude.{ℕ, if◌then◌else◌, List, [], ◌∷◌}
use Rattle.enumset_repr.specs.BitSet.{BitSet, empty, insert, is_subset}

-- the conclusion of each rule whose conditions are all in the set
unfoldable pub concluded : List (ℕ × BitSet) → BitSet → BitSet
concluded [] s = empty
concluded (rule ∷ rules) s = if is_subset rule.1 s then insert (concluded rules s) rule.0 else concluded rules s
