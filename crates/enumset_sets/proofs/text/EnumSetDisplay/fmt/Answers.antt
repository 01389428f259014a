use Rattle.std.proofs.Common.{ap, ◌∙◌, arith}
use Rattle.std.proofs.lemmas.Bool.Decides.{nat_tests}
use Rattle.std.proofs.lemmas.Iterator.Consumers.{YieldsList-end}
use Rattle.std.proofs.lemmas.List.{length_push}
use Rattle.enumset_sets.proofs.text.EnumSetDisplay.fmt.Goals as goal
use Rattle.enumset_sets.specs.Laws.Iterators.{of_bits}
use Rattle.enumset_sets.specs.Laws.Texts.{writes_one_more, writes_at, text_at-tells}

pub loop-element-preserved : goal.loop-element-preserved
loop-element-preserved g c =
    let longer = length_push c.loop-element.yielded c.in-Some.element in record {
      first = grind (arith, nat_tests, longer);
      written = writes_one_more g.T.Display.output g.W.Write.write_str_gives c.loop-element.yielded c.in-Some.element _ _ _ _ _ c.loop-element.invariant.first c.loop-element.invariant.written c.in_ok-write_separator.ensures.text c.in_ok-fmt.ensures.writes;
    }

pub returns-clause-writes : goal.returns-clause-writes
returns-clause-writes g c =
    let end = YieldsList-end (of_bits g.T.EnumSetType.elements.bit _ _ (ap (λ i. i.items) c.into_iter-element-iterator.ensures.into_iter_gives ∙ c.iter-element-items.ensures.ascending)) c.loop-element.yielded _ c.loop-element.yielded_by _ _ c.in-None.is c.next.ensures.steps in
    writes_at g.T.Display.output g.T.EnumSetType.elements.bit _ (text_at-tells g.T.EnumSetType.elements.bit g.met.T.EnumSetType.lawful.bit_tells g.T.EnumSetType.values g.T.Display.output) g.W.Write.write_str_gives c.loop-element.yielded _ _ _ end.0 c.loop-element.invariant.written
