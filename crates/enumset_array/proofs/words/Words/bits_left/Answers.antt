use Rattle.std.proofs.Common.{◌∙◌}
use Rattle.enumset_repr.specs.Laws.Ascending.{len_ascending}
use Rattle.enumset_array.proofs.words.Words.bits_left.Goals as goal

pub returns : goal.returns
returns g c = rw (← c.self.view_is) (c.count_ones.ensures ∙ len_ascending _)
