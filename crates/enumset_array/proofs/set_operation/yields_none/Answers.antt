use Rattle.std.proofs.lemmas.Bool.Decides.{same_from_decides}
use Rattle.enumset_repr.specs.Laws.Ascending.{is_empty_iff}
use Rattle.enumset_array.proofs.CombinedWords.{made_none}
use Rattle.enumset_array.proofs.set_operation.yields_none.Goals as goal

pub returns-clause-empty : goal.returns-clause-empty
returns-clause-empty g c =
    rw (c.words_yield_none.ensures, c.words.ensures.words, c.words-2.ensures.words) (same_from_decides _ _ (made_none _ _ g.met.O.SetOperation.on_bits _ _ _ c.words.ensures.value c.words-2.ensures.value) (is_empty_iff _))
