-- Why a line has no value, from why its tokens have none.
use Rattle.std.proofs.Common.{◌≡◌, ◌⊎◌, ◌∙◌, ℕ, List, ap, inl, inr, subst, sym}
use Rattle.std.specs.Prelude.{ℤ, Result, Ok, Err, IfErr}
use Rattle.example_expressions.specs.Faults.{fault_at}
use Rattle.example_expressions.specs.Answers.{column_of, IsFaultOf, no_expression, no_value}
use Rattle.example_expressions.specs.Grammar.{kinds_of, IsExpression, IsFault}
use Rattle.example_expressions.specs.Tokens.{tokens_of}
use Rattle.example_expressions.specs.Values.{value_of}
use Rattle.example_expressions.specs.declared.fault.Fault.{Fault}
use Rattle.example_expressions.specs.declared.fault.Reason.TheVariants.{OutOfMemory, Unexpected}
use Rattle.example_expressions.specs.declared.parser.Unexpected as found
use Rattle.example_expressions.specs.declared.token.Token.{Token}

pub fault_of_value : (line : List ℕ) (tokens : List Token) (r : Result ℤ Fault) → tokens_of line ≡ Ok tokens → IsExpression (kinds_of tokens) → IfErr r (λ fault. (fault.reason ≡ OutOfMemory) ⊎ (value_of tokens ≡ Err fault)) → IfErr r (λ fault. (fault.reason ≡ OutOfMemory) ⊎ IsFaultOf line fault)
fault_of_value line tokens (Ok value) are expression h = tt
fault_of_value line tokens (Err fault) are expression (inl memory) = inl memory
fault_of_value line tokens (Err fault) are expression (inr is) = inr (no_value are expression is)

pub fault_of_tokens : (line : List ℕ) (tokens : List Token) (unexpected : found.Unexpected) (column : ℕ) (fault : Fault) → tokens_of line ≡ Ok tokens → IsFault (kinds_of tokens) unexpected → column ≡ column_of line tokens unexpected.place → fault ≡ fault_at column (Unexpected unexpected) → IsFaultOf line fault
fault_of_tokens line tokens unexpected column fault are wrong at is = subst (IsFaultOf line) (sym (is ∙ ap (λ c. fault_at c (Unexpected unexpected)) at)) (no_expression are wrong)
