use Rattle.std.proofs.Common.{◌≡◌, ◌++◌}
use denote.Shadow.{shadow}
use denote.Text.{Utf8}
use Rattle.enumset_source.specs.Sources.{written}
use Rattle.enumset_source.proofs.tokens.tokens_of.Given as goal

-- the tokens so far and the rest of the text are the source
abbrev pub invariant-loop : goal.invariant-loop
invariant-loop l = record {
  whole : written l.tokens.items ++ l.rest ≡ l.source;
  text : shadow (Utf8 l.rest);
}
