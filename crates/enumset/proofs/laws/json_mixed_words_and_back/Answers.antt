use Rattle.std.proofs.Common.{◌≡◌, true, subst}
use Rattle.enumset_repr.specs.BitSet.{is_subset, below}
use Rattle.enumset.proofs.JsonLaws.{words_kept, all_in_words}
use Rattle.enumset.proofs.laws.json_mixed_words_and_back.Goals as goal

pub returns : goal.returns
returns g c =
    let width = g.T.Repr.EnumSetTypeRepr.WIDTH in
    let count = g.T.Repr.EnumSetTypeRepr.PREFERRED_ARRAY_LEN in
    let within : is_subset c.args.set.now (below width) ≡ true =
    subst (λ s. is_subset s (below width) ≡ true) c.as_repr.ensures (g.met.T.Repr.EnumSetTypeRepr.represents.within _ c.learn_is_value.ensures) in
    words_kept c.args.set.now width count c.args.past within (all_in_words c.args.set.now count _ g.met.T.Repr.EnumSetTypeRepr.represents.word_count within)
