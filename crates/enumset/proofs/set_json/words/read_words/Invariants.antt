use Rattle.std.proofs.Common.{◌≡◌, map}
use Rattle.serde_json.specs.View.{view}
use Rattle.enumset.proofs.JsonWords.{AreRead, other_from}
use Rattle.enumset.proofs.set_json.words.read_words.Given as goal
use Rattle.enumset.specs.Json.{held_words}

-- the elements before index `place` are words, and have been read
abbrev pub invariant-loop-place : goal.invariant-loop-place
invariant-loop-place g l =
    (other_from l.item-items l.place ≡ other_from l.item-items 0)
    × AreRead (held_words (map view l.item-items)) l.place g.R.EnumSetTypeRepr.WIDTH (g.R.EnumSetTypeRepr.members l.words.repr) l.words.is_whole
