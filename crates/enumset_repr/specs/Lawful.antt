-- One test of an enum without fields, its bits and its constants. An element type that passes it satisfies the laws
-- (`Laws/Elements` of `enumset_sets`).
--     IsLawful, IsLawfulNumber, IsLawfulWords      the test over any representation, over an integer, over words;
--         where it fails, it is a fault, a type whose name says what to fix
--     BitCountShouldBe, NamesABitTwice, BitWidthShouldBe, VariantCountShouldBe      the faults
--     AllBitsShouldBe, AllBitsShouldBeWords      the faults of ALL_BITS, over an integer and over words
--     one_past_all, or_else      one past the greatest number of a list;  a fault if a test fails, else what comes next
use Rattle.std.specs.Prelude.{ℕ, zero, suc, ◌^◌, ◌==◌, Bool, true, false, List, [], ◌∷◌, length, max, sum_by}
use denote.Enum.Declared.{Declared, rowss}
use denote.Enum.Bare.{Bare}
use Rattle.enumset_repr.specs.Number.{is_distinct}
use Rattle.enumset_repr.specs.Words.{in_first_word, in_later_words, lists_words}

-- one past the greatest number of a list
abbrev pub one_past_all : List ℕ → ℕ
one_past_all [] = 0
one_past_all (b ∷ bs) = max (suc b) (one_past_all bs)

-- What an element type may get wrong. These types have no values: where one is expected, its name says what to fix.
pub data BitCountShouldBe (variants : ℕ) : Type 0 where

pub data NamesABitTwice : Type 0 where

pub data BitWidthShouldBe (width : ℕ) : Type 0 where

pub data VariantCountShouldBe (count : ℕ) : Type 0 where

pub data AllBitsShouldBe (number : ℕ) : Type 0 where

pub data AllBitsShouldBeWords (words : List ℕ) : Type 0 where

-- the given fault if a test fails, else what comes next
abbrev pub or_else : Bool → Type 0 → Type 0 → Type 0
or_else true fault next = next
or_else false fault next = fault

-- What comes next, once a number is known. The checker then finds both numbers before it computes any of the test: half
-- computed, the test of a thousand words takes more memory than a check has.
abbrev pub once_known : ℕ → Type 0 → Type 0
once_known zero next = next
once_known (suc n) next = next

-- what is tested, in this order: one bit for each variant, no two the same, `valid` (a test of ALL_BITS), the width,
-- the count, and that the enum has no fields
abbrev pub IsLawful : (D : Declared) → List ℕ → Bool → Type 0 → ℕ → ℕ → Type 0
IsLawful D bs valid fault width count =
    once_known width (once_known count
    (or_else (length bs == length (rowss D.parts)) (BitCountShouldBe (length (rowss D.parts)))
    (or_else (is_distinct bs) NamesABitTwice
    (or_else valid fault
    (or_else (one_past_all bs == width) (BitWidthShouldBe (one_past_all bs))
    (or_else (length bs == count) (VariantCountShouldBe (length bs)) (Bare D.parts)))))))

-- the test `IsLawful` over an integer: ALL_BITS must be the number of the bits
abbrev pub IsLawfulNumber : (D : Declared) → List ℕ → ℕ → ℕ → ℕ → Type 0
IsLawfulNumber D bs n width count =
    IsLawful D bs (sum_by (λ b. 2 ^ b) bs == n) (AllBitsShouldBe (sum_by (λ b. 2 ^ b) bs)) width count

-- words with the bits that a list names, as many words as ns has
abbrev pub words_naming : List ℕ → List ℕ → List ℕ
words_naming bs [] = []
words_naming bs (n ∷ ns) = sum_by (λ b. 2 ^ b) (in_first_word bs) ∷ words_naming (in_later_words bs) ns

-- the test `IsLawful` over words: the words of ALL_BITS must have the bits of the list and no others
abbrev pub IsLawfulWords : (D : Declared) → List ℕ → List ℕ → ℕ → ℕ → Type 0
IsLawfulWords D bs ns width count = IsLawful D bs (lists_words bs ns) (AllBitsShouldBeWords (words_naming bs ns)) width count
