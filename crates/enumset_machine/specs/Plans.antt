-- Plans of commands: the fields of a command, and its reply with the state that it leaves. The outcomes of plans.
--     Rules      which bits the sets of a run may have, and how a step of an iterator replies
--     valid_rules      the rules of a run whose sets have valid bits alone
--     width_rules      the rules of a run whose sets have bits below a width
--     Field      what a command names: a register, a bit, a width, a width with a value, or words
--     is_width      whether a number is the width of an integer that sets are converted to and from
--     is_register, fits_width      whether a named register exists;  whether a named width exists, and a value fits it
--     is_bit      whether a set may have the named bit
--     Plan      the fields of a command, and by the rules and the state before it its reply and the state it leaves
--     row      a plan, as a row of a table
--     put_if      a new set in a register if a condition holds, with the reply
--     reply_if_below      a reply, if each member of a set is below a number
--     step_reply      the reply to a step of an iterator, by the bit that it yields
--     refusal      why a command is refused, if it is
--     Outcome      a reply, and the state after it
--     outcome_unless, outcome_by      the outcome of a plan, which may be refused;  the outcome of a command
--     replies_by, state_after      the replies to a list of commands, and the state that they leave, by the outcome of
--         each
use Rattle.std.specs.Prelude.{ℕ, ◌^◌, Bool, true, not, ◌&&◌, nat_lt, List, [], ◌∷◌, Option, Some, None, if◌then◌else◌}
use Rattle.std.specs.List.{list_all}
use Rattle.enumset_repr.specs.BitSet.{BitSet, is_in, contains, is_subset, below}
use Rattle.enumset_machine.specs.States.{State, put_set, is_set_register, is_iterator_register}
use Rattle.enumset_commands.specs.declared.reply.Reply.{Reply}
use Rattle.enumset_commands.specs.declared.reply.Reply.TheVariants.{Done, Bit, Unknown, Absent, Refused}
use Rattle.enumset_commands.specs.declared.reply.Refusal.{Refusal}
use Rattle.enumset_commands.specs.declared.reply.Refusal.TheVariants.{NoRegister, NotABit, NotAWidth}

-- the valid bits, the bits that a set may have, and the reply to a step that yields a bit
pub record Rules : Type 0 where
  pub valid : BitSet
  pub allowed : BitSet
  pub bit_reply : ℕ → Reply

-- a set may have the valid bits alone
abbrev pub valid_rules : BitSet → Rules
valid_rules valid = record { valid = valid; allowed = valid; bit_reply = λ bit. Bit bit }

-- a set may have each bit below the width
abbrev pub width_rules : BitSet → ℕ → Rules
width_rules valid width =
    record { valid = valid; allowed = below width; bit_reply = λ bit. if contains valid bit then Bit bit else Unknown bit }

-- a set register, an iterator register; a valid bit, a bit that a set may have, any bit; a width, a value that has to
-- fit a width; words
pub data Field : Type 0 where
  SetAt : ℕ → Field
  IteratorAt : ℕ → Field
  ValidBit : ℕ → Field
  AllowedBit : ℕ → Field
  AnyBit : ℕ → Field
  Width : ℕ → Field
  Value : ℕ → ℕ → Field
  WordsOf : List ℕ → Field

-- the widths of Rust's unsigned integers
abbrev pub is_width : ℕ → Bool
is_width w = is_in w (8 ∷ 16 ∷ 32 ∷ 64 ∷ 128 ∷ [])

-- a field that is no register passes
abbrev pub is_register : Field → Bool
is_register (SetAt r) = is_set_register r
is_register (IteratorAt i) = is_iterator_register i
is_register _ = true

-- a field that has no width passes
abbrev pub fits_width : Field → Bool
fits_width (Width width) = is_width width
fits_width (Value width value) = is_width width && nat_lt value (2 ^ width)
fits_width _ = true

-- a field that is no bit, or any bit, passes
abbrev pub is_bit : Rules → Field → Bool
is_bit rules (ValidBit bit) = contains rules.valid bit
is_bit rules (AllowedBit bit) = contains rules.allowed bit
is_bit rules _ = true

-- the fields of the command; its reply, and the state that it leaves, if it is not refused
pub record Plan : Type 0 where
  pub fields : List Field
  pub effect : Rules → State → Reply × State

-- a plan, by its fields and its effect
abbrev pub row : List Field → (Rules → State → Reply × State) → Plan
row fields effect = record { fields = fields; effect = effect }

-- if the condition does not hold, nothing changes
abbrev pub put_if : Bool → State → ℕ → BitSet → Reply × State
put_if holds s r new = (if holds then Done else Absent, if holds then put_set s r new else s)

-- if a member is not below the number, there is no such reply
abbrev pub reply_if_below : BitSet → ℕ → Reply → Reply
reply_if_below s n reply = if is_subset s (below n) then reply else Absent

-- at the end of an iterator there is nothing left
abbrev pub step_reply : Rules → Option ℕ → Reply
step_reply rules None = Absent
step_reply rules (Some bit) = rules.bit_reply bit

-- the registers are tested first, then the widths, and then the bits
abbrev pub refusal : Rules → Plan → Option Refusal
refusal rules plan =
    if not (list_all is_register plan.fields) then Some NoRegister else if not (list_all fits_width plan.fields) then Some NotAWidth else if not (list_all (is_bit rules) plan.fields) then Some NotABit else None

-- what is replied, and the state afterwards
pub record Outcome : Type 0 where
  pub reply : Reply
  pub state : State

-- a refused command leaves the state as it was
abbrev pub outcome_unless : Option Refusal → Rules → State → Plan → Outcome
outcome_unless (Some refused) rules s plan = record { reply = Refused refused; state = s }
outcome_unless None rules s plan = record { reply = (plan.effect rules s).0; state = (plan.effect rules s).1 }

-- a command has the outcome of its plan
abbrev pub outcome_by : {C : Type 0} → Rules → (C → Plan) → State → C → Outcome
outcome_by rules plan s c = outcome_unless (refusal rules (plan c)) rules s (plan c)

-- the replies to commands that are carried out in order, from a state
abbrev pub replies_by : {C : Type 0} → (State → C → Outcome) → State → List C → List Reply
replies_by outcome s [] = []
replies_by outcome s (c ∷ cs) = (outcome s c).reply ∷ replies_by outcome (outcome s c).state cs

-- the state after commands that are carried out in order, from a state
abbrev pub state_after : {C : Type 0} → (State → C → Outcome) → State → List C → State
state_after outcome s [] = s
state_after outcome s (c ∷ cs) = state_after outcome (outcome s c).state cs
