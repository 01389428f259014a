-- What a list of commands of mixed sets replies, over finite sets of bit numbers alone.
--     mixed_plan      the plan of each command; a command of every run has the same plan
--     mixed_outcome      the reply to a command, refused or not, and the state after it
--     mixed_replies      the replies to a list of commands, from the start
--     is_field_within      whether the bits of a field, also those in its value or its words, are below a width
--     is_within      whether the bits of a command are below a width, and it is not a full complement
use Rattle.std.specs.Prelude.{ℕ, Bool, true, false, not, List, [], ◌∷◌}
use Rattle.std.specs.List.{list_all}
use Rattle.enumset_repr.specs.BitSet as set
use Rattle.enumset_repr.specs.BitSet.{BitSet}
use Rattle.enumset_repr.specs.Number.{bits}
use Rattle.enumset_repr.specs.Words.{bits_of}
use Rattle.enumset_machine.specs.States.{State, start, set_at, put_set}
use Rattle.enumset_machine.specs.Plans.{Field, SetAt, ValidBit, AllowedBit, AnyBit, Value, WordsOf, Plan, row, put_if, width_rules, Outcome, outcome_by, replies_by}
use Rattle.enumset_machine.specs.Runs.{plan}
use Rattle.enumset_commands.specs.declared.mixed_command.MixedCommand.{MixedCommand}
use Rattle.enumset_commands.specs.declared.mixed_command.MixedCommand.TheVariants.{Common, HasBit, InsertBit, RemoveBit, FullComplement, ValidLen, Unknown, AsEnumset, Truncate}
use Rattle.enumset_commands.specs.declared.reply.Reply.{Reply}
use Rattle.enumset_commands.specs.declared.reply.Reply.TheVariants.{Done, Truth, Count}

-- a row is as in the plans of every run
unfoldable pub mixed_plan : MixedCommand → Plan
mixed_plan (Common c) = plan c
mixed_plan (HasBit r bit) = row (SetAt r ∷ AnyBit bit ∷ []) (λ rules s. (Truth (set.contains (set_at s r) bit), s))
mixed_plan (InsertBit r bit) =
    row (SetAt r ∷ AllowedBit bit ∷ []) (λ rules s. (Truth (not (set.contains (set_at s r) bit)), put_set s r (set.insert (set_at s r) bit)))
mixed_plan (RemoveBit r bit) =
    row (SetAt r ∷ AnyBit bit ∷ []) (λ rules s. (Truth (set.contains (set_at s r) bit), put_set s r (set.remove (set_at s r) bit)))
mixed_plan (FullComplement to a) =
    row (SetAt to ∷ SetAt a ∷ []) (λ rules s. (Done, put_set s to (set.difference rules.allowed (set_at s a))))
mixed_plan (ValidLen r) = row (SetAt r ∷ []) (λ rules s. (Count (set.len (set.intersection (set_at s r) rules.valid)), s))
mixed_plan (Unknown r) =
    row (SetAt r ∷ []) (λ rules s. (Truth (not (set.is_empty (set.difference (set_at s r) rules.valid))), s))
mixed_plan (AsEnumset to a) =
    row (SetAt to ∷ SetAt a ∷ []) (λ rules s. put_if (set.is_subset (set_at s a) rules.valid) s to (set_at s a))
mixed_plan (Truncate to a) =
    row (SetAt to ∷ SetAt a ∷ []) (λ rules s. (Done, put_set s to (set.intersection (set_at s a) rules.valid)))

-- over sets of bits below a width; some of them are valid
unfoldable pub mixed_outcome : BitSet → ℕ → State → MixedCommand → Outcome
mixed_outcome valid width = outcome_by (width_rules valid width) mixed_plan

-- from empty registers
abbrev pub mixed_replies : BitSet → ℕ → List MixedCommand → List Reply
mixed_replies valid width cs = replies_by (mixed_outcome valid width) start cs

-- a register and a width have no bits
abbrev pub is_field_within : ℕ → Field → Bool
is_field_within width (ValidBit bit) = set.contains (set.below width) bit
is_field_within width (AllowedBit bit) = set.contains (set.below width) bit
is_field_within width (AnyBit bit) = set.contains (set.below width) bit
is_field_within width (Value _ value) = set.is_subset (bits value) (set.below width)
is_field_within width (WordsOf ws) = set.is_subset (bits_of ws) (set.below width)
is_field_within width _ = true

-- a full complement is within no width, since it yields all bits below the width of the run that its operand lacks
abbrev pub is_within : ℕ → MixedCommand → Bool
is_within width (FullComplement to a) = false
is_within width c = list_all (is_field_within width) (mixed_plan c).fields
