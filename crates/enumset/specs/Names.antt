-- The names of an element type's values.
--     Names      bits, each with its name
--     names_of      the valid bits with the names of a list, in the order of the list of bits
--     name_of      the name of a bit
--     bit_named      the bit of a name, if there is one
--     names_agree      whether a bit of one type and a bit of another are the same exactly if their names are
--     are_distinct      whether no text occurs twice
--     IsNaming      the test that each bit has a name of its own;  where it fails, a type whose name says what to fix
use Rattle.std.specs.Prelude.{ℕ, Bool, true, not, ◌&&◌, ◌==◌, if◌then◌else◌, List, [], ◌∷◌, length, zip, Option, Some, None}
use Rattle.std.specs.Bool.{beq}
use Rattle.std.specs.List.{list_any, list_all}
use Rattle.std.specs.Str.{bytes_eq}
use Rattle.enumset_repr.specs.Lawful.{or_else}
use Rattle.enumset_sets.specs.Elements.{Elements}

abbrev pub Names : Type 0
Names = List (ℕ × List ℕ)

abbrev pub names_of : {T : Type 0} → Elements T → List (List ℕ) → Names
names_of elements names = zip elements.bit_list names

abbrev pub name_of : Names → ℕ → List ℕ
name_of [] b = []
name_of (n ∷ ns) b = if n.0 == b then n.1 else name_of ns b

abbrev pub bit_named : Names → List ℕ → Option ℕ
bit_named [] text = None
bit_named (n ∷ ns) text = if bytes_eq n.1 text then Some n.0 else bit_named ns text

abbrev pub names_agree : Names → Names → Bool
names_agree ns ms = list_all (λ n. list_all (λ m. beq (n.0 == m.0) (bytes_eq n.1 m.1)) ms) ns

-- ---- the test

abbrev pub are_distinct : List (List ℕ) → Bool
are_distinct [] = true
are_distinct (n ∷ ns) = not (list_any (λ m. bytes_eq m n) ns) && are_distinct ns

-- What names may get wrong. These types have no values: where a proof has to give one, its name says what to fix.
pub data NameCountShouldBe (count : ℕ) : Type 0 where

pub data NamesAValueTwice : Type 0 where

-- as many names as bits, and no two the same
abbrev pub IsNaming : List ℕ → List (List ℕ) → Type 0
IsNaming bs names =
    or_else (length names == length bs) (NameCountShouldBe (length bs))
    (or_else (are_distinct names) NamesAValueTwice (Unit {0}))
