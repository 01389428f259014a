-- The texts of faults.
--     all_texts, text_at, kind_text      the texts of the kinds, in the order of their bits;  the text of a bit;  of a kind
--     separator      what is written before a kind: nothing before the first, a comma and a space before the others
--     listed      texts, each with what is written before it
--     kinds_text      the texts of a set of kinds
--     unexpected_text, reason_text, fault_text      the text of an unexpected token;  of a reason;  of a fault
use Rattle.std.specs.Prelude.{ℕ, Bool, true, false, if◌then◌else◌, List, [], ◌∷◌, ◌++◌, map, slice_index_or, codes, decimal}
use Rattle.std.specs.Char.{encode_utf8}
use Rattle.enumset.specs.Sets.{BitSet, ascending}
use Rattle.example_expressions.specs.Grammar.{bit}
use Rattle.example_expressions.specs.declared.fault.Fault.{Fault}
use Rattle.example_expressions.specs.declared.fault.Reason.{Reason}
use Rattle.example_expressions.specs.declared.fault.Reason.TheVariants as reason
use Rattle.example_expressions.specs.declared.kind.Kind.{Kind}
use Rattle.example_expressions.specs.declared.parser.Unexpected.{Unexpected}

abbrev pub all_texts : List (List ℕ)
all_texts = codes "number" ∷ codes "(" ∷ codes "-" ∷ codes "+" ∷ codes "*" ∷ codes "/" ∷ codes ")" ∷ codes "end" ∷ []

abbrev pub text_at : ℕ → List ℕ
text_at q = slice_index_or all_texts q []

abbrev pub kind_text : Kind → List ℕ
kind_text kind = text_at (bit kind)

abbrev pub separator : Bool → List ℕ
separator is_first = if is_first then [] else codes ", "

abbrev pub listed : Bool → List (List ℕ) → List ℕ
listed is_first [] = []
listed is_first (text ∷ texts) = separator is_first ++ (text ++ listed false texts)

abbrev pub kinds_text : BitSet → List ℕ
kinds_text kinds = listed true (map text_at (ascending kinds))

abbrev pub unexpected_text : Unexpected → List ℕ
unexpected_text token = codes "found " ++ (kind_text token.found ++ (codes ", expected " ++ kinds_text token.expected))

abbrev pub reason_text : Reason → List ℕ
reason_text (reason.NoToken character) = encode_utf8 character ++ codes " begins no token"
reason_text reason.LargeNumber = codes "the number is too large"
reason_text (reason.Unexpected token) = unexpected_text token
reason_text reason.ZeroDivisor = codes "division by zero"
reason_text reason.LargeValue = codes "the value does not fit 64 bits"
reason_text reason.OutOfMemory = codes "memory ran out"

abbrev pub fault_text : Fault → List ℕ
fault_text fault = codes "column " ++ (decimal fault.column ++ (codes ": " ++ reason_text fault.reason))
