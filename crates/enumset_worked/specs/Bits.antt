-- The bits of the worked types' variants, in the order of their declaration.
--     letters_bits, four_bits, sparse_bits, marks_bits, wide_bits, high_bits, masks_bits, single_bits      the bits of
--         the worked type of that name
--     pair_bits      the bits of `pair-words` and of `pair-number`
use Rattle.std.specs.Prelude.{ℕ, List, [], ◌∷◌}

abbrev pub letters_bits : List ℕ
letters_bits = 0 ∷ 1 ∷ 2 ∷ 3 ∷ 4 ∷ 5 ∷ 6 ∷ []

abbrev pub four_bits : List ℕ
four_bits = 0 ∷ 1 ∷ 2 ∷ 3 ∷ []

abbrev pub sparse_bits : List ℕ
sparse_bits = 10 ∷ 20 ∷ 30 ∷ 127 ∷ []

abbrev pub marks_bits : List ℕ
marks_bits = 0 ∷ 1 ∷ 2 ∷ []

abbrev pub wide_bits : List ℕ
wide_bits = 3 ∷ 64 ∷ 130 ∷ []

-- the bits of `pair-words` and of `pair-number`
abbrev pub pair_bits : List ℕ
pair_bits = 0 ∷ 64 ∷ []

-- A, B and C, counted down from the highest of 8 bits
abbrev pub high_bits : List ℕ
high_bits = 7 ∷ 6 ∷ 5 ∷ []

-- the bits of the masks 1, 16 and 64
abbrev pub masks_bits : List ℕ
masks_bits = 0 ∷ 4 ∷ 6 ∷ []

abbrev pub single_bits : List ℕ
single_bits = 0 ∷ []
