-- The replies that answers stand for.
--     reply_by      the reply of an answer, by the members of its set
--     reply_of      the reply of an answer whose set is a set of bit numbers
--     takes_memory      whether a reply takes memory: it has words
use Rattle.std.specs.Prelude.{Bool, true, false}
use Rattle.enumset_repr.specs.BitSet.{BitSet}
use Rattle.enumset_repr.specs.Words.{words}
use Rattle.enumset_machine.specs.declared.answer.Answer.{Answer}
use Rattle.enumset_machine.specs.declared.answer.Answer.TheVariants as answer
use Rattle.enumset_commands.specs.declared.reply.Reply.{Reply}
use Rattle.enumset_commands.specs.declared.reply.Reply.TheVariants.{Done, Truth, Count, Number, Words, Order, Bit, Unknown, Absent, Refused}

-- an answer of words stands for the first words of its set
abbrev pub reply_by : {S : Type 0} → (S → BitSet) → Answer S → Reply
reply_by members answer.Done = Done
reply_by members (answer.Truth holds) = Truth holds
reply_by members (answer.Count n) = Count n
reply_by members (answer.Number n) = Number n
reply_by members (answer.Words set count) = Words (words (members set) count)
reply_by members (answer.Order order) = Order order
reply_by members (answer.Bit bit) = Bit bit
reply_by members (answer.Unknown bit) = Unknown bit
reply_by members answer.Absent = Absent
reply_by members (answer.Refused why) = Refused why

-- the members of a set of bit numbers are itself
abbrev pub reply_of : Answer BitSet → Reply
reply_of answer = reply_by (λ s. s) answer

-- only a list of words takes memory
abbrev pub takes_memory : Reply → Bool
takes_memory (Words ws) = true
takes_memory other = false
