-- Texts of several names.
--     joined      names with a comma and a space before each, except before the first if nothing precedes it
--     all_titles, title      the titles of the permissions, in the order of their bits;  the title of a bit
--     titled, is_title      the bit of the permission with a title, if there is one;  whether there is one
--     parts      the texts that the commas of a text separate
use Rattle.std.specs.Prelude.{ℕ, Bool, false, ◌==◌, if◌then◌else◌, List, [], ◌∷◌, ◌++◌, codes, slice_index_or, position, bytes_eq, Option}
use Rattle.std.specs.List.{slice_split}
use Rattle.std.specs.Option.{is_some}
use Rattle.std.specs.Str.{byte}

abbrev pub joined : Bool → List (List ℕ) → List ℕ
joined is_first [] = []
joined is_first (name ∷ names) = (if is_first then [] else codes ", ") ++ (name ++ joined false names)

abbrev pub all_titles : List (List ℕ)
all_titles = codes "read" ∷ codes "comment" ∷ codes "write" ∷ codes "share" ∷ codes "delete" ∷ []

abbrev pub title : ℕ → List ℕ
title q = slice_index_or all_titles q []

abbrev pub titled : List ℕ → Option ℕ
titled text = position (λ t. bytes_eq t text) all_titles

abbrev pub is_title : List ℕ → Bool
is_title text = is_some (titled text)

abbrev pub parts : List ℕ → List (List ℕ)
parts text = slice_split (λ b. b == byte ",") text
