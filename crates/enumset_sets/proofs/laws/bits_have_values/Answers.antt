use Rattle.std.proofs.Common.{ap, sym, ◌∙◌}
use Rattle.std.proofs.lemmas.Iterator.Consumers.{YieldsList-end}
use Rattle.enumset_repr.specs.BitSet.{is_in, contains}
use Rattle.enumset_repr.specs.Laws.Members.{contains_ascending}
use Rattle.enumset_sets.specs.Laws.Elements.{has_value, is_valid_bit, some_value, all_values}
use Rattle.enumset_sets.specs.Laws.Iterators.{of_bits}
use Rattle.enumset_sets.proofs.laws.bits_have_values.Goals as goal

-- the loop yielded a value for each valid bit
pub returns-clause-value : goal.returns-clause-value
returns-clause-value g c = λ bit one.
    let elements = g.T.EnumSetType.elements in
    let end = YieldsList-end (of_bits elements.bit _ _ c.into_iter-value-iterator.ensures.into_iter_gives.0.items) c.loop-value.yielded _ c.loop-value.yielded_by _ _ c.in-None.is c.next.ensures.steps in
    has_value elements.bit c.loop-value.yielded bit (
    ap (is_in bit) end.0 ∙ sym (contains_ascending _ bit) ∙ ap (λ s. contains s bit) c.all-value-items.ensures ∙ is_valid_bit elements bit ∙ one)

pub returns-clause-some : goal.returns-clause-some
returns-clause-some g c = some_value g.T.EnumSetType.elements (returns-clause-value g c)

pub returns-clause-all : goal.returns-clause-all
returns-clause-all g c = all_values g.T.EnumSetType.elements (returns-clause-value g c)
