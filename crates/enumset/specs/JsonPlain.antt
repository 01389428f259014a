-- Plain texts, which are read without an allocation, and strings that need no escape in JSON. A text is the list of the
-- bytes of a string. The clauses of public calls cite IsPlainNumber, IsPlainWords, IsPlainList and IsPlainMap. The
-- other names serve these and private functions.
--     IsPlainByte, IsPlain      a byte needs no escape in a string;  each byte of a list needs none
--     is_space, AreSpaces      whether a byte is allowed between tokens;  each byte of a list is
--     Begins      a list begins with a byte that has a property
--     IsSpaced      a text is some tokens, with spaces before, between and after them
--     quoted      a string between quotes
--     later_tokens, item_tokens      the tokens after an item of a list or a map;  after the opening bracket
--     word_tokens, name_tokens, member_tokens      the tokens of a number;  of a name;  of a name and its boolean
--     IsPlainNumber      a text is a whole number from 0 to 2 ^ 64 - 1
--     IsPlainWords      a text is an array of such numbers
--     IsPlainList      a text is an array of strings that need no escape
--     IsPlainMap      a text is an object of booleans, whose names are known, need no escape, and come once each
--     Passed      spaces, a byte, and what follows it
--     IsTextOf, IsTextIfPlain      a text is what a value is written as, and reads as the value;  if a result is a
--         text, it is such a text
--     StartsWithMember      a plain name up to its closing quote and a boolean, with spaces, and what follows them
--     AreRising      each of some names is before the later ones, in the order of their bytes
--     IsName      a text is the name of one of some bits
--     AreMembers      some names are the names of a set's members, in the order of their bytes
use Rattle.std.specs.Prelude.{◌≡◌, ◌⊎◌, ◌<◌, ◌^◌, ℕ, List, [], ◌∷◌, ◌++◌, length, map, Bool, true, false, nat_lt, ◌==◌, ◌||◌, Option, Some, Result, String, IfOk, IfSome, string_bytes, decimal}
use Rattle.std.specs.Borrow.{Bor}
use Rattle.std.specs.Cmp.Lexicographic.{slice_cmp}
use Rattle.std.specs.List.{All, AllByRecursion}
use Rattle.std.specs.List.Sorted.{IsStrictlySortedBy}
use Rattle.std.specs.Ordering.{nat_cmp}
use Rattle.enumset_repr.specs.BitSet.{BitSet, ascending, len}
use Rattle.serde_json.specs.Data.{Data, boolean}
use Rattle.serde_json.specs.Read.{read}
use Rattle.serde_json.specs.Written.{compact_text}
use Rattle.enumset.specs.JsonNames.{is_unknown}
use Rattle.enumset.specs.Names.{Names, name_of, are_distinct}

abbrev pub IsPlainByte : ℕ → Type 0
IsPlainByte x = ((x == 34) ≡ false) × ((x == 92) ≡ false) × (nat_lt x 32 ≡ false)

abbrev pub IsPlain : List ℕ → Type 0
IsPlain = AllByRecursion IsPlainByte

abbrev pub is_space : ℕ → Bool
is_space x = (x == 32) || (x == 9) || (x == 10) || (x == 13)

abbrev pub AreSpaces : List ℕ → Type 0
AreSpaces = AllByRecursion (λ x. is_space x ≡ true)

abbrev pub Begins : (ℕ → Type 0) → List ℕ → Type 0
Begins P [] = ⊥
Begins P (x ∷ xs) = P x

-- ---- texts that are read without an allocation

abbrev pub IsSpaced : List (List ℕ) → List ℕ → Type 0
IsSpaced [] text = AreSpaces text
IsSpaced (token ∷ tokens) text = (spaces : List ℕ) × (rest : List ℕ) × AreSpaces spaces × (text ≡ spaces ++ (token ++ rest)) × IsSpaced tokens rest

abbrev pub quoted : List ℕ → List ℕ
quoted string = 34 ∷ (string ++ 34 ∷ [])

-- a comma before each further item, and the closing bracket
abbrev pub later_tokens : ℕ → List (List (List ℕ)) → List (List ℕ)
later_tokens end [] = (end ∷ []) ∷ []
later_tokens end (item ∷ items) = (44 ∷ []) ∷ (item ++ later_tokens end items)

abbrev pub item_tokens : ℕ → List (List (List ℕ)) → List (List ℕ)
item_tokens end [] = (end ∷ []) ∷ []
item_tokens end (item ∷ items) = item ++ later_tokens end items

abbrev pub word_tokens : ℕ → List (List ℕ)
word_tokens n = decimal n ∷ []

abbrev pub name_tokens : List ℕ → List (List ℕ)
name_tokens name = quoted name ∷ []

abbrev pub member_tokens : List ℕ × Bool → List (List ℕ)
member_tokens m = quoted m.0 ∷ (58 ∷ []) ∷ compact_text (boolean m.1) ∷ []

abbrev pub IsPlainNumber : List ℕ → Type 0
IsPlainNumber text = (n : ℕ) × (n < 2 ^ 64) × IsSpaced (word_tokens n) text

abbrev pub IsPlainWords : List ℕ → Type 0
IsPlainWords text = (ns : List ℕ) × AllByRecursion (λ n. n < 2 ^ 64) ns × IsSpaced ((91 ∷ []) ∷ item_tokens 93 (map word_tokens ns)) text

abbrev pub IsPlainList : List ℕ → Type 0
IsPlainList text = (found : List (List ℕ)) × AllByRecursion IsPlain found × IsSpaced ((91 ∷ []) ∷ item_tokens 93 (map name_tokens found)) text

abbrev pub IsPlainMap : Names → List ℕ → Type 0
IsPlainMap names text =
    (ms : List (List ℕ × Bool)) × AllByRecursion (λ m. IsPlain m.0 × (is_unknown names m.0 ≡ false)) ms × (are_distinct (map (λ m. m.0) ms) ≡ true)
    × IsSpaced ((123 ∷ []) ∷ item_tokens 125 (map member_tokens ms)) text

-- ---- the steps of the readers and writers

abbrev pub Passed : List ℕ → ℕ → List ℕ → Type 0
Passed text byte rest = (spaces : List ℕ) × AreSpaces spaces × (text ≡ spaces ++ byte ∷ rest)

abbrev pub IsTextOf : Data → List ℕ → Type 0
IsTextOf value text = (text ≡ compact_text value) × (read text ≡ Some value)

abbrev pub IsTextIfPlain : {Z E : Type 0} → Data → Result (Option (String Z)) E → Type 0
IsTextIfPlain value result = IfOk result (λ o. IfSome o (λ text. IsTextOf value (string_bytes text)))

abbrev pub StartsWithMember : List ℕ → List ℕ → Bool → List ℕ → Type 0
StartsWithMember text name b rest =
    IsPlain name × ((g : List ℕ) × (h : List ℕ) × AreSpaces g × AreSpaces h × (text ≡ name ++ 34 ∷ (g ++ 58 ∷ (h ++ (compact_text (boolean b) ++ rest)))))

abbrev pub AreRising : List (Bor (List ℕ)) → Type 0
AreRising = IsStrictlySortedBy (λ x y. slice_cmp nat_cmp x.now y.now)

abbrev pub IsName : Names → List ℕ → List ℕ → Type 0
IsName names [] text = ⊥
IsName names (b ∷ bs) text = (name_of names b ≡ text) ⊎ IsName names bs text

abbrev pub AreMembers : Names → BitSet → List (Bor (List ℕ)) → Type 0
AreMembers names s ns = AreRising ns × All (λ n. IsName names (ascending s) n.now) ns × (length ns ≡ len s)
