use Rattle.std.proofs.Common.{◌≡◌, map}
use Rattle.serde_json.specs.View.{view}
use Rattle.enumset_repr.specs.Words.{words}
use Rattle.enumset.proofs.set_json.words.write_words.Given as goal
use Rattle.enumset.specs.Json.{number_value}

-- the words before place i are written
abbrev pub invariant-loop-i : goal.invariant-loop-i
invariant-loop-i g l = map view l.all.items ≡ map number_value (words (g.R.EnumSetTypeRepr.members l.repr) l.i)
