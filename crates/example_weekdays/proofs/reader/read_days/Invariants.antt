use Rattle.std.proofs.Common.{◌≡◌}
use Rattle.std.specs.Str.Iter.{split_ascii_whitespace_text}
use Rattle.example_weekdays.specs.Schedules.{words_of, and_days, days_in}
use Rattle.example_weekdays.proofs.reader.read_days.Given as goal

-- the days so far, with the days of the remaining words, are the days of the line
abbrev pub invariant-loop-word : goal.invariant-loop-word
invariant-loop-word l = and_days l.number l.days (words_of (split_ascii_whitespace_text l.word-iterator)) ≡ days_in l.number l.line
