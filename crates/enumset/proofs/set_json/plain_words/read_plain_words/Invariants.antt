use Rattle.std.proofs.Common.{◌≤◌, ◌+◌, length}
use Rattle.enumset.proofs.PlainTexts.{WordsLeft}
use Rattle.enumset.proofs.PlainWords.{GoesOn}
use Rattle.enumset.proofs.set_json.plain_words.read_plain_words.Given as goal
use Rattle.enumset.specs.JsonPlain.{IsPlainWords}

-- the text that is left goes on with the array; if the text is plain, there are more words
abbrev pub invariant-loop-place : goal.invariant-loop-place
invariant-loop-place g l =
    GoesOn l.text g.R.EnumSetTypeRepr.WIDTH l.left l.place (g.R.EnumSetTypeRepr.members l.words.repr) l.words.is_whole
    × (length l.left + l.place ≤ length l.text) × (IsPlainWords l.text → WordsLeft l.left)
