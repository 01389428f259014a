use Rattle.std.proofs.Common.{◌≡◌, length, rules, ◌∙◌}
use Rattle.enumset_array.proofs.WordLanes.{none_apart}
use Rattle.enumset_array.proofs.array_repr.ArrayReprPartialEq.eq.Goals as goal

pub returns : goal.returns
returns g c =
    let as_long : length c.self.inside.0 ≡ length c.other.inside.0 = search rules in
    rw (← c.self.view_is, ← c.other.view_is) (c.words_yield_none.ensures ∙ none_apart _ _ as_long)
