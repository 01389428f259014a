-- The texts of replies and of faults, and which fault may be reported.
--     refusal_text      the text of a refusal
--     words_text      a space before each word, in decimal
--     text_of      the text of a reply
--     text      the texts of replies, each followed by one line feed
--     fault_text      the text of a fault
--     IsFaultOf      the fault may be reported instead of this answer
--     IsReadAs      what a reader may return: what the text writes, `None` if it writes nothing, or an error
use Rattle.std.specs.Prelude.{◌≡◌, ℕ, true, false, List, ◌++◌, codes, Option, Some, None, Result, Ok, Err}
use Rattle.std.specs.List.{flat_map}
use Rattle.std.specs.Option.{IsSome}
use Rattle.std.specs.Fmt.{decimal}
use Rattle.std.specs.declared.cmp.Ordering.TheVariants.{Less, Equal, Greater}
use Rattle.enumset_commands.specs.declared.reply.Reply.{Reply}
use Rattle.enumset_commands.specs.declared.reply.Reply.TheVariants.{Done, Truth, Count, Number, Words, Order, Bit, Unknown, Absent, Refused}
use Rattle.enumset_commands.specs.declared.reply.Refusal.{Refusal}
use Rattle.enumset_commands.specs.declared.reply.Refusal.TheVariants.{NoRegister, NotABit, NotAWidth}
use Rattle.enumset_commands.specs.declared.text_fault.TextFault.{TextFault}
use Rattle.enumset_commands.specs.declared.text_fault.TextFault.TheVariants.{TooLong, BadLine, OutOfMemory}

abbrev pub refusal_text : Refusal → List ℕ
refusal_text NoRegister = codes "K1 no register"
refusal_text NotABit = codes "K2 not a bit"
refusal_text NotAWidth = codes "K3 not a width"

abbrev pub words_text : List ℕ → List ℕ
words_text ws = flat_map (λ w. codes " " ++ decimal w) ws

abbrev pub text_of : Reply → List ℕ
text_of Done = codes "ok"
text_of (Truth true) = codes "true"
text_of (Truth false) = codes "false"
text_of (Count n) = decimal n
text_of (Number n) = decimal n
text_of (Words ws) = codes "words" ++ words_text ws
text_of (Order Less) = codes "less"
text_of (Order Equal) = codes "equal"
text_of (Order Greater) = codes "greater"
text_of (Bit b) = codes "bit " ++ decimal b
text_of (Unknown b) = codes "unknown " ++ decimal b
text_of Absent = codes "none"
text_of (Refused r) = refusal_text r

abbrev pub text : List Reply → List ℕ
text rs = flat_map (λ r. text_of r ++ codes "\n") rs

abbrev pub fault_text : TextFault → List ℕ
fault_text TooLong = codes "input too long"
fault_text (BadLine n) = codes "line " ++ decimal n ++ codes ": not a command"
fault_text OutOfMemory = codes "out of memory"

-- where there is an answer, the only fault is that memory ran out; an input that has a fault is refused for this one
abbrev pub IsFaultOf : {A : Type 0} → Result A TextFault → TextFault → Type 0
IsFaultOf (Ok value) fault = fault ≡ OutOfMemory
IsFaultOf (Err own) fault = fault ≡ own

-- if the text writes nothing, the reader returns `None`, even if memory runs out
abbrev pub IsReadAs : {A E : Type 0} → Option A → Option (Result A E) → Type 0
IsReadAs own None = own ≡ None
IsReadAs own (Some (Ok value)) = own ≡ Some value
IsReadAs own (Some (Err error)) = IsSome own
