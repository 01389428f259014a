use Rattle.std.proofs.Common.{◌∙◌}
use Rattle.enumset_sets.specs.Elements.{valid_bits}
use Rattle.enumset.proofs.JsonLaws.{words_accepted, accepted_within, words_kept, all_in_words}
use Rattle.enumset.proofs.laws.readers.carried_along.Goals as goal

pub returns : goal.returns
returns g c =
    let s = c.args.set.now in
    let old = g.Old.Repr.EnumSetTypeRepr.PREFERRED_ARRAY_LEN in
    let new = g.New.Repr.EnumSetTypeRepr.PREFERRED_ARRAY_LEN in
    let width = g.Old.Repr.EnumSetTypeRepr.WIDTH in record {
      carried = λ within. words_kept s width new c.args.past within c.all_words_and_back.ensures.back;
      as_it_was = λ within. words_accepted s (valid_bits g.New.EnumSetType.elements) old c.args.unknown (all_in_words s old width g.met.Old.Repr.EnumSetTypeRepr.represents.word_count within) ∙ accepted_within _ _ c.args.unknown c.all_words_and_back.ensures.valid;
    }
