use Rattle.std.proofs.Common.{sym, ◌∙◌}
use Rattle.std.proofs.lemmas.Bool.{cond-false}
use Rattle.enumset.proofs.NameLists.{left_at, bit_first}
use Rattle.enumset.proofs.names.find_in.Goals as goal

pub loop-place-preserved : goal.loop-place-preserved
loop-place-preserved g c =
    sym (bit_first (λ n. (g.T.EnumSetType.elements.bit n.0, n.1.now)) _ _ _ (left_at _ _ c.index-names-place.result c.loop-place-test.true c.index-names-place.is) _
    ∙ cond-false _ _ _ (sym c.has_bytes.ensures ∙ c.if-has_bytes.false))
    ∙ c.loop-place.invariant
