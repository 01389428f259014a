-- What a list of commands replies, over finite sets of bit numbers alone.
--     plan      the plan of each command: its fields, what it replies and what it leaves
--     outcome      the reply to a command, refused or not, and the state after it
--     replies      the replies to a list of commands, from the start
use Rattle.std.specs.Prelude.{◌*◌, not, List, [], ◌∷◌, length}
use Rattle.enumset_repr.specs.BitSet as set
use Rattle.enumset_repr.specs.BitSet.{BitSet}
use Rattle.enumset_repr.specs.Number.{number, bits}
use Rattle.enumset_repr.specs.Words.{words, bits_of}
use Rattle.enumset_repr.specs.Ends.{first, last, without_first, without_last}
use Rattle.enumset_repr.specs.Order.{compare}
use Rattle.enumset_machine.specs.States.{State, start, set_at, list_at, put_set, put_list}
use Rattle.enumset_machine.specs.Plans.{SetAt, IteratorAt, ValidBit, Width, Value, WordsOf, Plan, row, put_if, reply_if_below, step_reply, valid_rules, Outcome, outcome_by, replies_by}
use Rattle.enumset_commands.specs.declared.command.Command.{Command}
use Rattle.enumset_commands.specs.declared.command.Command.TheVariants.{New, All, Only, Insert, Remove, Contains, Clear, Len, IsEmpty, Union, Intersection, Difference, SymmetricDifference, Complement, InsertAll, RemoveAll, Disjoint, Superset, Subset, Equal, Compare, Number, NumberCut, FromNumber, FromNumberCut, Words, WordsCut, FromWords, FromWordsCut, Iter, Next, NextBack, Left}
use Rattle.enumset_commands.specs.declared.reply.Reply.{Reply}
use Rattle.enumset_commands.specs.declared.reply.Reply.TheVariants.{Done, Truth, Count, Number as NumberIs, Words as WordsAre, Order}

-- A row has a command, its fields, its reply, and the state that it leaves. Its sets and its lists are those of `s`,
-- the state before it.
unfoldable pub plan : Command → Plan
plan (New r) = row (SetAt r ∷ []) (λ rules s. (Done, put_set s r set.empty))
plan (All r) = row (SetAt r ∷ []) (λ rules s. (Done, put_set s r rules.valid))
plan (Only r bit) = row (SetAt r ∷ ValidBit bit ∷ []) (λ rules s. (Done, put_set s r (set.only bit)))
plan (Insert r bit) =
    row (SetAt r ∷ ValidBit bit ∷ []) (λ rules s. (Truth (not (set.contains (set_at s r) bit)), put_set s r (set.insert (set_at s r) bit)))
plan (Remove r bit) =
    row (SetAt r ∷ ValidBit bit ∷ []) (λ rules s. (Truth (set.contains (set_at s r) bit), put_set s r (set.remove (set_at s r) bit)))
plan (Contains r bit) = row (SetAt r ∷ ValidBit bit ∷ []) (λ rules s. (Truth (set.contains (set_at s r) bit), s))
plan (Clear r) = row (SetAt r ∷ []) (λ rules s. (Done, put_set s r set.empty))
plan (Len r) = row (SetAt r ∷ []) (λ rules s. (Count (set.len (set_at s r)), s))
plan (IsEmpty r) = row (SetAt r ∷ []) (λ rules s. (Truth (set.is_empty (set_at s r)), s))
plan (Union to a b) = row (SetAt to ∷ SetAt a ∷ SetAt b ∷ []) (λ rules s. (Done, put_set s to (set.union (set_at s a) (set_at s b))))
plan (Intersection to a b) =
    row (SetAt to ∷ SetAt a ∷ SetAt b ∷ []) (λ rules s. (Done, put_set s to (set.intersection (set_at s a) (set_at s b))))
plan (Difference to a b) =
    row (SetAt to ∷ SetAt a ∷ SetAt b ∷ []) (λ rules s. (Done, put_set s to (set.difference (set_at s a) (set_at s b))))
plan (SymmetricDifference to a b) =
    row (SetAt to ∷ SetAt a ∷ SetAt b ∷ []) (λ rules s. (Done, put_set s to (set.symmetric_difference (set_at s a) (set_at s b))))
plan (Complement to a) = row (SetAt to ∷ SetAt a ∷ []) (λ rules s. (Done, put_set s to (set.difference rules.valid (set_at s a))))
plan (InsertAll r a) = row (SetAt r ∷ SetAt a ∷ []) (λ rules s. (Done, put_set s r (set.union (set_at s r) (set_at s a))))
plan (RemoveAll r a) = row (SetAt r ∷ SetAt a ∷ []) (λ rules s. (Done, put_set s r (set.difference (set_at s r) (set_at s a))))
plan (Disjoint a b) = row (SetAt a ∷ SetAt b ∷ []) (λ rules s. (Truth (set.is_disjoint (set_at s a) (set_at s b)), s))
plan (Superset a b) = row (SetAt a ∷ SetAt b ∷ []) (λ rules s. (Truth (set.is_subset (set_at s b) (set_at s a)), s))
plan (Subset a b) = row (SetAt a ∷ SetAt b ∷ []) (λ rules s. (Truth (set.is_subset (set_at s a) (set_at s b)), s))
plan (Equal a b) = row (SetAt a ∷ SetAt b ∷ []) (λ rules s. (Truth (set.is_same (set_at s a) (set_at s b)), s))
plan (Compare a b) = row (SetAt a ∷ SetAt b ∷ []) (λ rules s. (Order (compare (set_at s a) (set_at s b)), s))
plan (Number r width) =
    row (SetAt r ∷ Width width ∷ []) (λ rules s. (reply_if_below (set_at s r) width (NumberIs (number (set_at s r))), s))
plan (NumberCut r width) = row (SetAt r ∷ Width width ∷ []) (λ rules s. (NumberIs (number (set.low (set_at s r) width)), s))
plan (FromNumber r width value) =
    row (SetAt r ∷ Value width value ∷ []) (λ rules s. put_if (set.is_subset (bits value) rules.allowed) s r (bits value))
plan (FromNumberCut r width value) =
    row (SetAt r ∷ Value width value ∷ []) (λ rules s. (Done, put_set s r (set.intersection (bits value) rules.allowed)))
plan (Words r count) =
    row (SetAt r ∷ []) (λ rules s. (reply_if_below (set_at s r) (64 * count) (WordsAre (words (set_at s r) count)), s))
plan (WordsCut r count) = row (SetAt r ∷ []) (λ rules s. (WordsAre (words (set_at s r) count), s))
plan (FromWords r ws) =
    row (SetAt r ∷ WordsOf ws ∷ []) (λ rules s. put_if (set.is_subset (bits_of ws) rules.allowed) s r (bits_of ws))
plan (FromWordsCut r ws) =
    row (SetAt r ∷ WordsOf ws ∷ []) (λ rules s. (Done, put_set s r (set.intersection (bits_of ws) rules.allowed)))
plan (Iter i r) = row (IteratorAt i ∷ SetAt r ∷ []) (λ rules s. (Done, put_list s i (set.ascending (set_at s r))))
plan (Next i) =
    row (IteratorAt i ∷ []) (λ rules s. (step_reply rules (first (list_at s i)), put_list s i (without_first (list_at s i))))
plan (NextBack i) =
    row (IteratorAt i ∷ []) (λ rules s. (step_reply rules (last (list_at s i)), put_list s i (without_last (list_at s i))))
plan (Left i) = row (IteratorAt i ∷ []) (λ rules s. (Count (length (list_at s i)), s))

-- over sets of valid bits
unfoldable pub outcome : BitSet → State → Command → Outcome
outcome valid = outcome_by (valid_rules valid) plan

-- from empty registers
abbrev pub replies : BitSet → List Command → List Reply
replies valid cs = replies_by (outcome valid) start cs
