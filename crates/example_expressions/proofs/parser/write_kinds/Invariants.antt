use Rattle.std.proofs.Common.{map}
use Rattle.example_expressions.specs.Texts.{listed, text_at, kinds_text}
use Rattle.example_expressions.proofs.Written.{IsWritten}
use Rattle.example_expressions.proofs.parser.write_kinds.Given as goal

-- the kinds so far were written
abbrev pub invariant-loop-kind : goal.invariant-loop-kind
invariant-loop-kind g l = IsWritten g.W.Write.write_str_gives l.initial.f (kinds_text l.fn.kinds) (listed l.is_first (map text_at l.kind-iterator.items)) l.f
