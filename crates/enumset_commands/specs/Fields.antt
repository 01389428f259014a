-- The fields of a command, which are tokens, and the operands that they write.
--     value, field, register, count, bit, width, word      the number that a field writes, if it fits
--     one, two, three      the numbers of exactly one, two or three fields, if each of them writes one
--     written_words      the words that tokens write, if each of them is one
--     register_and_words      the numbers of a register and of any number of words
--     BeginsWithNone      there is no token, or the first one does not write a number
--     Takes      if there is a number, the first token writes it, and the other tokens are left
use Rattle.std.specs.Prelude.{◌≡◌, ⊤, ℕ, ◌^◌, ◌==◌, not, ◌&&◌, nat_lt, List, [], ◌∷◌, length, Option, Some, None, option_map, option_and_then, if◌then◌else◌}
use Rattle.std.specs.Str.{all_ascii_digits}
use Rattle.std.specs.Str.Parse.{digits_value}

-- the number of one decimal digit or more and nothing else, if it has at most 128 bits
abbrev pub value : List ℕ → Option ℕ
value token =
    if not (length token == 0) && all_ascii_digits token && nat_lt (digits_value 10 token) (2 ^ 128) then Some (digits_value 10 token) else None

-- a value of at most this many bits
abbrev pub field : ℕ → List ℕ → Option ℕ
field bits token = option_and_then (λ n. if nat_lt n (2 ^ bits) then Some n else None) (value token)

-- a register and a count have 8 bits, a bit and a width 32, a word 64
abbrev pub register : List ℕ → Option ℕ
register token = field 8 token

abbrev pub count : List ℕ → Option ℕ
count token = field 8 token

abbrev pub bit : List ℕ → Option ℕ
bit token = field 32 token

abbrev pub width : List ℕ → Option ℕ
width token = field 32 token

abbrev pub word : List ℕ → Option ℕ
word token = field 64 token

-- exactly one, two or three fields, each read in its own way
abbrev pub one : (List ℕ → Option ℕ) → List (List ℕ) → Option ℕ
one first (x ∷ []) = first x
one first other = None

abbrev pub two : (List ℕ → Option ℕ) → (List ℕ → Option ℕ) → List (List ℕ) → Option (ℕ × ℕ)
two first second (x ∷ y ∷ []) = option_and_then (λ a. option_map (λ b. (a, b)) (second y)) (first x)
two first second other = None

abbrev pub three : (List ℕ → Option ℕ) → (List ℕ → Option ℕ) → (List ℕ → Option ℕ) → List (List ℕ) → Option (ℕ × ℕ × ℕ)
three first second third (x ∷ y ∷ z ∷ []) =
    option_and_then (λ a. option_and_then (λ b. option_map (λ c. (a, b, c)) (third z)) (second y)) (first x)
three first second third other = None

abbrev pub written_words : List (List ℕ) → Option (List ℕ)
written_words [] = Some []
written_words (token ∷ tokens) = option_and_then (λ w. option_map (λ ws. w ∷ ws) (written_words tokens)) (word token)

abbrev pub register_and_words : List (List ℕ) → Option (ℕ × List ℕ)
register_and_words [] = None
register_and_words (x ∷ tokens) = option_and_then (λ r. option_map (λ ws. (r, ws)) (written_words tokens)) (register x)

abbrev pub BeginsWithNone : (List ℕ → Option ℕ) → List (List ℕ) → Type 0
BeginsWithNone read [] = ⊤
BeginsWithNone read (token ∷ tokens) = read token ≡ None

abbrev pub Takes : (List ℕ → Option ℕ) → List (List ℕ) → Option ℕ → List (List ℕ) → Type 0
Takes read old None new = BeginsWithNone read old
Takes read old (Some n) new = (token : List ℕ) × (old ≡ token ∷ new) × (read token ≡ Some n)
