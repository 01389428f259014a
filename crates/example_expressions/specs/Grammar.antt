-- Expressions, as lists of kinds of tokens.
--     bit      the bit of a kind
--     kinds_of      the kinds of tokens
--     is_operator      whether a kind is +, -, * or /
--     IsExpression      the four ways to write one
--     Begins      a list with which an expression, followed by the end, begins
--     IsFault      the first unexpected token, and each kind that is expected in its place
use Rattle.std.specs.Prelude.{◌≡◌, ◌↔◌, ℕ, Bool, true, false, List, [], ◌∷◌, ◌++◌, ◌≤◌, map, take, length, IsTrue}
use Rattle.std.specs.List.{slice_index_or}
use Rattle.enumset.specs.Sets.{contains, in_place}
use Rattle.example_expressions.specs.contracts.kind.Kind.{the_type}
use Rattle.example_expressions.specs.declared.kind.Kind.{Kind}
use Rattle.example_expressions.specs.declared.kind.Kind.TheVariants.{Number, Open, Minus, Plus, Times, Divide, Close, End}
use Rattle.example_expressions.specs.declared.token.Token.{Token}
use Rattle.example_expressions.specs.declared.parser.Unexpected.{Unexpected}

abbrev pub bit : Kind → ℕ
bit kind = (in_place the_type).bit kind

abbrev pub kinds_of : List Token → List Kind
kinds_of tokens = map (λ t. t.kind) tokens

abbrev pub is_operator : Kind → Bool
is_operator Plus = true
is_operator Minus = true
is_operator Times = true
is_operator Divide = true
is_operator _ = false

pub data IsExpression : List Kind → Type 0 where
  number : IsExpression (Number ∷ [])
  negated : {ks : List Kind} → IsExpression ks → IsExpression (Minus ∷ ks)
  joined : {ks ls : List Kind} (op : Kind) → IsExpression ks → is_operator op ≡ true → IsExpression ls → IsExpression (ks ++ op ∷ ls)
  grouped : {ks : List Kind} → IsExpression ks → IsExpression (Open ∷ (ks ++ Close ∷ []))

-- some more tokens make it an expression, followed by the end
abbrev pub Begins : List Kind → Type 0
Begins ks = (more : List Kind) × (e : List Kind) × (ks ++ more ≡ e ++ End ∷ []) × IsExpression e

pub record IsFault (ks : List Kind) (fault : Unexpected) : Type 0 where
  pub no_expression : IsExpression ks → ⊥
  -- the tokens before the fault begin an expression; with the token that was found they do not
  pub begins : Begins (take fault.place ks)
  pub within : fault.place ≤ length ks
  pub found : fault.found ≡ slice_index_or ks fault.place End
  pub not_expected : IsTrue (contains fault.expected (bit fault.found)) → ⊥
  -- a kind is expected if and only if the tokens before the fault, and then this kind, begin an expression
  pub expected : (kind : Kind) → IsTrue (contains fault.expected (bit kind)) ↔ Begins (take fault.place ks ++ kind ∷ [])
