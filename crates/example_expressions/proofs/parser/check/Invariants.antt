use Rattle.example_expressions.proofs.Reading.{IsAt}
use Rattle.example_expressions.proofs.parser.check.Given as goal

abbrev pub invariant-loop-token : goal.invariant-loop-token
invariant-loop-token l = IsAt l.tokens l.token-index l.reader
