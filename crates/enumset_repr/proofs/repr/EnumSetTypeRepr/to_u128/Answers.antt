use Rattle.std.proofs.Common.{◌∙◌}
use Rattle.enumset_repr.specs.Laws.WordLists.{number_words}
use Rattle.enumset_repr.proofs.repr.EnumSetTypeRepr.to_u128.Goals as goal

pub returns : goal.returns
returns g c = c.join_halves.ensures ∙ number_words _ _ c.to_u64_slice.ensures
