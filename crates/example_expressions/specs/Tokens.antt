-- The tokens of a line.
--     fits      whether a number fits 64 bits
--     digit      the value of a digit; 0 for another character
--     kind_at      the kind of the token that a character begins
--     with_digit      a number with one more digit
--     begun      tokens with one more token, which a character begins; a space or a tab begins none
--     continued      tokens with one more digit of the last one; for another character, with the token that it begins
--     with_character      tokens with one more character, after a digit or not
--     tokens_from      tokens, followed by the tokens of the characters from a column on
--     tokens_of      the tokens of the characters of a line
use Rattle.std.specs.Prelude.{ℕ, ◌+◌, ◌-◌, ◌^◌, ◌==◌, ℤ, pos, negsuc, ◌+ℤ◌, ◌*ℤ◌, Bool, false, ◌&&◌, ◌||◌, if◌then◌else◌, nat_lt, List, [], ◌∷◌, ◌++◌, length, slice_get, slice_set, Option, Some, None, Result, Ok, Err}
use Rattle.std.specs.Char.{is_ascii_digit}
use Rattle.example_expressions.specs.Faults.{fault_at, and_then}
use Rattle.example_expressions.specs.declared.fault.Fault.{Fault}
use Rattle.example_expressions.specs.declared.fault.Reason.TheVariants.{NoToken, LargeNumber}
use Rattle.example_expressions.specs.declared.kind.Kind.{Kind}
use Rattle.example_expressions.specs.declared.kind.Kind.TheVariants.{Number, Open, Minus, Plus, Times, Divide, Close}
use Rattle.example_expressions.specs.declared.token.Token.{Token}

abbrev pub fits : ℤ → Bool
fits (pos n) = nat_lt n (2 ^ 63)
fits (negsuc n) = nat_lt n (2 ^ 63)

abbrev pub digit : ℕ → ℤ
digit c = if is_ascii_digit c then pos (c - 48) else pos 0

-- the numbers of the characters ( ) + - * /
abbrev pub kind_at : ℕ → Option Kind
kind_at c =
    if is_ascii_digit c then Some Number else
    (if c == 40 then Some Open else
    (if c == 41 then Some Close else
    (if c == 43 then Some Plus else
    (if c == 45 then Some Minus else
    (if c == 42 then Some Times else
    (if c == 47 then Some Divide else None))))))

abbrev pub with_digit : Token → ℤ → Result Token Fault
with_digit token digit =
    let tens = token.number *ℤ pos 10 in
    if fits tens && fits (tens +ℤ digit) then Ok (record token { number = tens +ℤ digit }) else Err (fault_at token.column LargeNumber)

abbrev pub begun : Option Kind → List Token → ℕ → ℕ → Result (List Token) Fault
begun (Some kind) tokens column c = Ok (tokens ++ record { kind = kind; column = column; number = digit c } ∷ [])
begun None tokens column c = if (c == 32) || (c == 9) then Ok tokens else Err (fault_at column (NoToken c))

abbrev pub continued : Option Token → List Token → ℕ → ℕ → Result (List Token) Fault
continued (Some last) tokens column c = and_then (with_digit last (digit c)) (λ token. Ok (slice_set tokens (length tokens - 1) token))
continued None tokens column c = begun (kind_at c) tokens column c

abbrev pub with_character : Bool → List Token → ℕ → ℕ → Result (List Token) Fault
with_character after_digit tokens column c =
    continued (if after_digit && is_ascii_digit c then slice_get tokens (length tokens - 1) else None) tokens column c

abbrev pub tokens_from : Bool → List Token → ℕ → List ℕ → Result (List Token) Fault
tokens_from after_digit tokens column [] = Ok tokens
tokens_from after_digit tokens column (c ∷ cs) =
    and_then (with_character after_digit tokens column c) (λ more. tokens_from (is_ascii_digit c) more (column + 1) cs)

abbrev pub tokens_of : List ℕ → Result (List Token) Fault
tokens_of line = tokens_from false [] 1 line
