use Rattle.std.proofs.Common.{◌≡◌}
use Rattle.std.specs.Str.Iter.{split_ascii_whitespace_text}
use Rattle.enumset.specs.Sets.{empty}
use Rattle.example_permissions.specs.Reading.{words_of, rights_in}
use Rattle.example_permissions.proofs.reader.Policy.answer.Given as goal

-- the rights so far, with the rights of the remaining words, are the rights of all words after the name
abbrev pub invariant-loop-word : goal.invariant-loop-word
invariant-loop-word l =
    rights_in l.asked (words_of (split_ascii_whitespace_text l.word-iterator)) ≡ rights_in empty (words_of (split_ascii_whitespace_text l.initial.word-iterator))
