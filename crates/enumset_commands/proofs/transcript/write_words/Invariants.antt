use Rattle.std.proofs.Common.{◌≡◌, ◌++◌, take, string_bytes}
use Rattle.enumset_commands.specs.Texts.{words_text}
use Rattle.enumset_commands.proofs.transcript.write_words.Given as goal

-- the words so far are written
abbrev pub invariant-loop-word : goal.invariant-loop-word
invariant-loop-word l = string_bytes l.out ≡ string_bytes l.initial.out ++ words_text (take l.word-index l.words)
