-- Sets, and the numbers that represent them.
--     number      the sum of 2 ^ b over the members b of a set
--     bits      the set that a number represents: the places of its ones in base two, counted from 0
--     integer_of, IsInteger      the integer that represents a set;  an integer has no bit from a width on
--     bits_listed      the bits of an integer as a list
--     is_distinct      whether no number is in a list twice
--     lists_bits      whether a list names each bit of a number once, and no other number
use Rattle.std.specs.Prelude.{ℕ, ◌^◌, ◌==◌, Bool, true, IsTrue, not, ◌&&◌, List, [], ◌∷◌, sum_by}
use Rattle.std.specs.Int.{bit_at}
use Rattle.enumset_repr.specs.BitSet.{BitSet, is_in, ascending, is_subset, below, retain}
use Rattle.enumset_repr.specs.Sum.{sum_over}

unfoldable pub number : BitSet → ℕ
number s = sum_over (λ b. 2 ^ b) s

-- the places of the ones of n: each place b is below n, since b is below 2 ^ b and 2 ^ b is at most n
unfoldable pub bits : ℕ → BitSet
bits n = retain (below n) (λ b. bit_at n b == 1)

-- The number of a set as the integer that represents it, what holds for such an integer, and the list of its bits. What
-- a function knows of each set and iterator that it is given shows them. They have names of their own, so that a search
-- does not read them as it reads other numbers, sets and lists.
unfoldable pub integer_of : BitSet → ℕ
integer_of s = number s

unfoldable pub IsInteger : ℕ → ℕ → Type 0
IsInteger width n = IsTrue (is_subset (bits n) (below width))

unfoldable pub bits_listed : ℕ → List ℕ
bits_listed n = ascending (bits n)

-- whether no number is in a list twice
abbrev pub is_distinct : List ℕ → Bool
is_distinct [] = true
is_distinct (b ∷ bs) = not (is_in b bs) && is_distinct bs

-- whether a list names each bit of a number once, and no other number: their powers of two add up to the number
abbrev pub lists_bits : List ℕ → ℕ → Bool
lists_bits bs n = is_distinct bs && (sum_by (λ b. 2 ^ b) bs == n)
