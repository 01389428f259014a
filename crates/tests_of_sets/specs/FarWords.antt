-- Words whose first and last bits are far apart.
--     far_words      1, then n words that are 0, then 2 ^ 63: the bits 0 and 64 n + 127
use Rattle.std.specs.Prelude.{ℕ, ◌^◌, List, [], ◌∷◌, ◌++◌, replicate}

-- n + 2 words, of which all but the first and the last are 0
unfoldable pub far_words : ℕ → List ℕ
far_words n = 1 ∷ (replicate n 0 ++ (2 ^ 63) ∷ [])
