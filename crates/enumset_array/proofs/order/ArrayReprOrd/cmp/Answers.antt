use Rattle.std.proofs.Common.{◌∙◌}
use Rattle.enumset_array.specs.Laws.Order.{compare_is}
use Rattle.enumset_array.proofs.order.ArrayReprOrd.cmp.Goals as goal

pub returns-clause-sets : goal.returns-clause-sets
returns-clause-sets g c = c.compare_words.ensures ∙ rw (c.words.ensures.words, c.words-2.ensures.words) (compare_is g.row.N _ _ c.words.ensures.value c.words-2.ensures.value)
