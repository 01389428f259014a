-- What permissions cost.
--     price      the price of the permission of a bit
use Rattle.std.specs.Prelude.{ℕ, [], ◌∷◌, slice_index_or}

abbrev pub price : ℕ → ℕ
price q = slice_index_or (1 ∷ 2 ∷ 5 ∷ 10 ∷ 20 ∷ []) q 0
