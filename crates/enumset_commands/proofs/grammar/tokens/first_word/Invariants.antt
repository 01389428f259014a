use Rattle.std.proofs.Common.{◌<◌, ◌^◌}
use Rattle.enumset_commands.proofs.Tokens.{DigitsSoFar}
use Rattle.enumset_commands.proofs.grammar.tokens.first_word.Given as goal

-- the bytes so far are digits, and write the number
abbrev pub invariant-loop-place : goal.invariant-loop-place
invariant-loop-place l = record {
  digits : DigitsSoFar l.text l.place l.number;
  fits : l.number < 2 ^ 64;
}
