use Rattle.std.proofs.Common.{◌≡◌, ◌+◌, drop, length}
use Rattle.std.specs.Str.{chars}
use Rattle.example_expressions.specs.Tokens.{tokens_from, tokens_of}
use Rattle.example_expressions.proofs.token.tokens.Given as goal

-- the tokens so far, and then the remaining characters, make the tokens of all characters
abbrev pub invariant-loop-index : goal.invariant-loop-index
invariant-loop-index l =
    tokens_from l.was_digit l.tokens.items (length l.yielded + 1) (drop (length l.yielded) (chars l.line)) ≡ tokens_of (chars l.line)
