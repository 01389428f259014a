-- A set cut into words of 64 bits, the lowest first.
--     is_in_word      whether a bit is in word w: from 64 w to 64 w + 63
--     word      word w of a set as a number: the sum of 2 ^ (b - 64 w) over the members b in it
--     upward_shift      the set of b + k for each member b
--     with_word      a set with its word w replaced by a number below 2 ^ 64, without the bits at or past a width that
--         the number would add
--     words      the first n words of a set, the lowest first
--     bits_of      the set that a list of words represents: 64 w + b for each place w and each bit b of the word there
--     in_first_word, in_later_words      the numbers of a list below 64;  the numbers from 64 on, each reduced by 64
--     lists_words      whether a list names each member of the set that words represent once, and no other number
use Rattle.std.specs.Prelude.{ℕ, ◌+◌, ◌-◌, ◌*◌, ◌^◌, Bool, true, false, if◌then◌else◌, not, ◌&&◌, nat_lt, nat_le, List, [], ◌∷◌, map, filter, sum_by}
use Rattle.std.specs.List.{range_with_len}
use Rattle.enumset_repr.specs.BitSet.{BitSet, ascending, empty, retain, from_list, union, low}
use Rattle.enumset_repr.specs.Number.{bits, lists_bits}

abbrev pub is_in_word : ℕ → ℕ → Bool
is_in_word w b = nat_le (64 * w) b && nat_lt b (64 * w + 64)

unfoldable pub word : BitSet → ℕ → ℕ
word s w = sum_by (λ b. 2 ^ (b - 64 * w)) (filter (is_in_word w) (ascending s))

unfoldable pub upward_shift : BitSet → ℕ → BitSet
upward_shift s k = from_list (map (λ b. k + b) (ascending s))

unfoldable pub with_word : BitSet → ℕ → ℕ → ℕ → BitSet
with_word s width w n = union (retain s (λ b. not (is_in_word w b))) (low (upward_shift (bits n) (64 * w)) width)

unfoldable pub words : BitSet → ℕ → List ℕ
words s n = map (word s) (range_with_len 0 n)

-- the bits of the first word, and those of the words after it, shifted upward by 64
unfoldable pub bits_of : List ℕ → BitSet
bits_of [] = empty
bits_of (n ∷ ns) = union (bits n) (upward_shift (bits_of ns) 64)

-- the numbers below 64
abbrev pub in_first_word : List ℕ → List ℕ
in_first_word [] = []
in_first_word (b ∷ bs) = if nat_lt b 64 then b ∷ in_first_word bs else in_first_word bs

-- the numbers from 64 on, each reduced by 64
abbrev pub in_later_words : List ℕ → List ℕ
in_later_words [] = []
in_later_words (b ∷ bs) = if nat_lt b 64 then in_later_words bs else (b - 64) ∷ in_later_words bs

-- word by word: whether the first list names each bit of the words of the second once, and no other number
abbrev pub lists_words : List ℕ → List ℕ → Bool
lists_words [] [] = true
lists_words (b ∷ bs) [] = false
lists_words bs (n ∷ ns) = lists_bits (in_first_word bs) n && lists_words (in_later_words bs) ns
