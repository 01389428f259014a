-- The value of an expression, token by token.
--     before_term      what was read between two parentheses, a sum, before a term with a sign
--     fitting      a number, if it fits 64 bits
--     level_value      the value of what was read between two parentheses
--     is_zero      whether a number is 0
--     with_operand      what was read, with one more operand
--     Reading      what was read in each open pair of parentheses, the innermost last, and whether the last token was an operand
--     seen      a state of the code as a `Reading`
--     before, start      the level and the state before the first token
--     next      a state after an operator or the end
--     with_kind      a state with one more token, of a kind and with a number
--     value_from      the value of a state with more tokens; the token before them is at a column
--     value_of      the value of tokens
-- Each number on the way has to fit 64 bits. A fault is at the column of the token that was read last.
use Rattle.std.specs.Prelude.{ℕ, ◌-◌, ◌==◌, ℤ, pos, negsuc, ◌+ℤ◌, ◌*ℤ◌, int_div, Bool, true, false, not, ◌&&◌, if◌then◌else◌, List, [], ◌∷◌, ◌++◌, length, take, slice_index_or, Result, Ok, Err}
use Rattle.example_expressions.specs.Faults.{and_then, at}
use Rattle.example_expressions.specs.Tokens.{fits}
use Rattle.example_expressions.specs.declared.fault.Fault.{Fault}
use Rattle.example_expressions.specs.declared.fault.Reason.{Reason}
use Rattle.example_expressions.specs.declared.fault.Reason.TheVariants.{ZeroDivisor, LargeValue}
use Rattle.example_expressions.specs.declared.kind.Kind.{Kind}
use Rattle.example_expressions.specs.declared.kind.Kind.TheVariants.{Number, Open, Minus, Plus, Times, Divide, Close, End}
use Rattle.example_expressions.specs.declared.token.Token.{Token}
use Rattle.example_expressions.specs.declared.value.Level.{Level}
use Rattle.example_expressions.specs.declared.value.State.{State}

abbrev pub before_term : ℤ → ℤ → Level
before_term sum sign = record { sum = sum; term = sign; divides = false; negates = false }

abbrev pub fitting : ℤ → Result ℤ Reason
fitting z = if fits z then Ok z else Err LargeValue

abbrev pub level_value : Level → Result ℤ Reason
level_value level = fitting (level.sum +ℤ level.term)

abbrev pub is_zero : ℤ → Bool
is_zero (pos n) = n == 0
is_zero (negsuc n) = false

-- a sign is 1, or -1, which is `negsuc 0`
abbrev pub with_operand : Level → ℤ → Result Level Reason
with_operand level operand =
    if level.divides && is_zero operand then Err ZeroDivisor else
    and_then (fitting (operand *ℤ (if level.negates then negsuc 0 else pos 1))) (λ factor.
    and_then (fitting (if level.divides then int_div level.term factor else level.term *ℤ factor)) (λ term.
    Ok (record level { term = term; negates = false })))

pub record Reading : Type 0 where
  pub outer : List Level
  pub level : Level
  pub after_operand : Bool

abbrev pub seen : State → Reading
seen s = record { outer = s.outer.items; level = s.level; after_operand = s.is_after_operand }

abbrev pub before : Level
before = before_term (pos 0) (pos 1)

abbrev pub start : Reading
start = record { outer = []; level = before; after_operand = false }

abbrev pub next : Reading → Level → Reading
next s level = record { outer = s.outer; level = level; after_operand = false }

abbrev pub with_kind : Kind → ℤ → Reading → Result Reading Reason
with_kind Number n s = and_then (with_operand s.level n) (λ level. Ok (record { outer = s.outer; level = level; after_operand = true }))
with_kind Open n s = Ok (record { outer = s.outer ++ s.level ∷ []; level = before; after_operand = false })
with_kind Close n s =
    let last = length s.outer - 1 in
    and_then (level_value s.level) (λ value.
    and_then (with_operand (slice_index_or s.outer last before) value) (λ level.
    Ok (record { outer = take last s.outer; level = level; after_operand = true })))
with_kind Plus n s = and_then (level_value s.level) (λ sum. Ok (next s (before_term sum (pos 1))))
with_kind Minus n s =
    if s.after_operand then and_then (level_value s.level) (λ sum. Ok (next s (before_term sum (negsuc 0))))
    else Ok (next s (record s.level { negates = not s.level.negates }))
with_kind Times n s = Ok (next s (record s.level { divides = false }))
with_kind Divide n s = Ok (next s (record s.level { divides = true }))
with_kind End n s = Ok (next s s.level)

abbrev pub value_from : ℕ → Reading → List Token → Result ℤ Fault
value_from column s [] = at column (level_value s.level)
value_from column s (t ∷ ts) = and_then (at t.column (with_kind t.kind t.number s)) (λ s. value_from t.column s ts)

abbrev pub value_of : List Token → Result ℤ Fault
value_of tokens = value_from 1 start tokens
