use Rattle.std.proofs.Common.{◌≡◌, drop}
use Rattle.example_expressions.specs.Values.{start, seen, value_from}
use Rattle.example_expressions.proofs.value.value_up_to.Given as goal

-- the state, and then the remaining tokens, have the value of all tokens
abbrev pub invariant-loop-token : goal.invariant-loop-token
invariant-loop-token l = value_from l.column (seen l.state) (drop l.token-index l.tokens) ≡ value_from l.initial.column start l.tokens
