-- The states of a reader of tokens.
--     Place      what is expected next: an operand, an operator, or nothing
--     closing      `)` if parentheses are open, else the end
--     coming      the kinds that are expected
--     place_after, depth_after      what is expected after an expected kind;  how many parentheses are open then
--     next_kinds      the set of the expected kinds
--     Reads, Refuses      a reader after an expected kind;  the fault at another kind
use Rattle.std.specs.Prelude.{◌≡◌, ℕ, zero, suc, ◌+◌, true, false, List, [], ◌∷◌, map}
use Rattle.enumset.specs.Sets.{BitSet, contains, from_list}
use Rattle.example_expressions.specs.declared.kind.Kind.{Kind}
use Rattle.example_expressions.specs.declared.kind.Kind.TheVariants.{Number, Open, Minus, Plus, Times, Divide, Close, End}
use Rattle.example_expressions.specs.declared.parser.Reader.{Reader}
use Rattle.example_expressions.specs.declared.parser.Unexpected.{Unexpected}
use Rattle.example_expressions.specs.Grammar.{bit}

pub data Place : Type 0 where
  Operand : Place
  Operator : Place
  Done : Place

abbrev pub closing : ℕ → Kind
closing zero = End
closing (suc _) = Close

abbrev pub coming : Place → ℕ → List Kind
coming Operand depth = Number ∷ Open ∷ Minus ∷ []
coming Operator depth = Minus ∷ Plus ∷ Times ∷ Divide ∷ closing depth ∷ []
coming Done depth = []

abbrev pub place_after : Kind → Place
place_after Number = Operator
place_after Close = Operator
place_after End = Done
place_after _ = Operand

abbrev pub depth_after : Kind → ℕ → ℕ
depth_after Open depth = suc depth
depth_after Close (suc depth) = depth
depth_after _ depth = depth

abbrev pub next_kinds : Reader → BitSet
next_kinds reader = from_list (map bit (coming (place_after reader.last) reader.depth))

pub record Reads (before : Reader) (kind : Kind) (after : Reader) : Type 0 where
  pub may_come : contains (next_kinds before) (bit kind) ≡ true
  pub next : after ≡ record { place = before.place + 1; last = kind; depth = depth_after kind before.depth }

pub record Refuses (before : Reader) (kind : Kind) (fault : Unexpected) : Type 0 where
  pub may_not_come : contains (next_kinds before) (bit kind) ≡ false
  pub is : fault ≡ record { place = before.place; found = kind; expected = next_kinds before }
