-- The answer of the program to a line.
--     column_of      the column of the token at an index, or the column past the end of the line
--     IsValueOf      a number is the value of a line
--     IsFaultOf      why a line has no value: some character does not begin a token, the tokens are not an expression, or
--         a number on the way to the value does not fit
use Rattle.std.specs.Prelude.{◌≡◌, ℕ, ◌+◌, ℤ, List, map, length, Ok, Err}
use Rattle.std.specs.List.{slice_index_or}
use Rattle.example_expressions.specs.Faults.{fault_at}
use Rattle.example_expressions.specs.Grammar.{kinds_of, IsExpression, IsFault}
use Rattle.example_expressions.specs.Tokens.{tokens_of}
use Rattle.example_expressions.specs.Values.{value_of}
use Rattle.example_expressions.specs.declared.fault.Fault.{Fault}
use Rattle.example_expressions.specs.declared.fault.Reason.TheVariants as reason
use Rattle.example_expressions.specs.declared.parser.Unexpected.{Unexpected}
use Rattle.example_expressions.specs.declared.token.Token.{Token}

abbrev pub column_of : List ℕ → List Token → ℕ → ℕ
column_of line tokens place = slice_index_or (map (λ t. t.column) tokens) place (length line + 1)

pub record IsValueOf (line : List ℕ) (value : ℤ) : Type 0 where
  pub tokens : List Token
  pub are : tokens_of line ≡ Ok tokens
  pub expression : IsExpression (kinds_of tokens)
  pub value_is : value_of tokens ≡ Ok value

pub data IsFaultOf (line : List ℕ) : Fault → Type 0 where
  no_tokens : {fault : Fault} → tokens_of line ≡ Err fault → IsFaultOf line fault
  no_expression : {tokens : List Token} {unexpected : Unexpected} → tokens_of line ≡ Ok tokens → IsFault (kinds_of tokens) unexpected → IsFaultOf line (fault_at (column_of line tokens unexpected.place) (reason.Unexpected unexpected))
  no_value : {tokens : List Token} {fault : Fault} → tokens_of line ≡ Ok tokens → IsExpression (kinds_of tokens) → value_of tokens ≡ Err fault → IsFaultOf line fault
