use Rattle.enumset.proofs.WordsWritten.{AreWords}
use Rattle.enumset.proofs.set_json.plain_words.write_plain_words.Given as goal

-- the words before place i are written
abbrev pub invariant-loop-i : goal.invariant-loop-i
invariant-loop-i g l = AreWords (g.R.EnumSetTypeRepr.members l.repr) l.bytes.items l.i
