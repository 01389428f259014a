use Rattle.std.proofs.Common.{◌≡◌, ◌∙◌}
use Rattle.enumset_array.specs.ArrayWords.{words_in_use, IsArrayRepr}
use Rattle.enumset_array.proofs.RowWords.{row_others, row_repr, front_fits}
use Rattle.enumset_array.proofs.words.WordsRow.ask_front.Given.{Over}
use Rattle.enumset_array.proofs.words.WordsRow.ask_front.Goals as goal

same_words : (g : Over) (c : goal.After-take_least g) → words_in_use g.row.N c.self-inside.inside.0.0.0 ≡ c.args.self.now.words
same_words g c = (λ j. words_in_use g.row.N (c.self-inside.view_is j).repr) ∙ (λ j. (c.self.view_is j).words)

pub invariant_of-self : goal.invariant_of-self
invariant_of-self g c =
    let is_repr : IsArrayRepr g.row.N c.self-inside.inside.0.0.0 = rw (← c.self-inside.view_is) at c.self.invariant in
    row_repr _ _ _ _ _ (same_words g c) c.requires is_repr (front_fits _ _ c.take_least.result (is_repr.fit c.args.i) c.take_least.ensures.bit c.take_least.ensures.unchanged)

pub returns-clause-others : goal.returns-clause-others
returns-clause-others g c = row_others _ _ _ _ c.take_least.new.word (same_words g c) c.requires
