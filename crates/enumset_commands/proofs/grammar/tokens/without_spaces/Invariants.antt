use Rattle.std.proofs.Common.{◌≡◌, length}
use Rattle.enumset_commands.specs.Lines.{tokens_of}
use Rattle.enumset_commands.proofs.grammar.tokens.without_spaces.Given as goal

-- what is left has all the tokens
abbrev pub invariant-loop-rest : goal.invariant-loop-rest
invariant-loop-rest l = tokens_of l.rest ≡ tokens_of l.text

abbrev pub decreases-loop-rest : goal.decreases-loop-rest
decreases-loop-rest l = length l.rest
