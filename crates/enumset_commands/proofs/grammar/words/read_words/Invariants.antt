use Rattle.std.proofs.Common.{◌≡◌, true, length, is_some}
use Rattle.enumset_commands.specs.Fields.{written_words}
use Rattle.enumset_commands.proofs.WordTokens.{after_words}
use Rattle.enumset_commands.proofs.grammar.words.read_words.Given as goal

-- Until memory runs out, the words so far and the words of the remaining tokens are the words of all tokens. The
-- remaining tokens decide whether all are words.
abbrev pub invariant-loop-tokens : goal.invariant-loop-tokens
invariant-loop-tokens l = record {
  words : l.has_room ≡ true → after_words l.words.items (written_words l.tokens) ≡ written_words l.fn.tokens;
  some : is_some (written_words l.tokens) ≡ is_some (written_words l.fn.tokens);
}

abbrev pub decreases-loop-tokens : goal.decreases-loop-tokens
decreases-loop-tokens l = length l.tokens
