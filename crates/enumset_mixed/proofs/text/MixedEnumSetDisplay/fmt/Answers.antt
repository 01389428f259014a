use Rattle.std.proofs.Common.{ℕ, List, Option, refl, ap, inr, ◌∙◌, arith}
use Rattle.std.proofs.lemmas.Bool.Decides.{nat_tests}
use Rattle.std.proofs.lemmas.Iterator.Consumers.{YieldsList-end}
use Rattle.std.proofs.lemmas.List.{length_push}
use Rattle.enumset_sets.specs.Elements.{valid_bits}
use Rattle.enumset_sets.specs.Laws.Iterators.{of_shown}
use Rattle.enumset_sets.specs.Laws.Texts.{Tells, writes_one_more, writes_at, text_at-tells}
use Rattle.enumset_sets.specs.Texts.{text_at}
use Rattle.enumset_mixed.proofs.text.MixedEnumSetDisplay.fmt.Goals as goal
use Rattle.enumset_mixed.specs.Mixed.{bit_with_validity, with_validity}
use Rattle.enumset_mixed.specs.Texts.{item_text, text_with_validity}
use Rattle.enumset_mixed.specs.declared.mixed_value.MixedValue.{MixedValue}
use Rattle.enumset_mixed.specs.declared.mixed_value.MixedValue.TheVariants.{Valid, Invalid}

item_text-tells : {T R I : Type 0} (bit : T → ℕ) (at : ℕ → Option (List ℕ)) (text : T → Option (List ℕ)) → ((v : T) → Tells (at (bit v)) (text v)) → (item : MixedValue T R I) → Tells (text_with_validity at (bit_with_validity bit item)) (item_text text item)
item_text-tells bit at text tells (Valid v) = tells v
item_text-tells bit at text tells (Invalid b) = inr refl

pub loop-member-preserved : goal.loop-member-preserved
loop-member-preserved g c =
    let longer = length_push c.loop-member.yielded c.in-Some.member in record {
      first = grind (arith, nat_tests, longer);
      written = writes_one_more (item_text g.T.Display.output) g.W.Write.write_str_gives c.loop-member.yielded c.in-Some.member _ _ _ _ _ c.loop-member.invariant.first c.loop-member.invariant.written c.in_ok-write_separator.ensures.text c.in_ok-fmt.ensures.writes;
    }

pub returns-clause-writes : goal.returns-clause-writes
returns-clause-writes g c =
    let bit = g.T.EnumSetType.elements.bit in
    let valid = valid_bits g.T.EnumSetType.elements in
    let end = YieldsList-end (of_shown (bit_with_validity bit) (with_validity valid) _ _ (ap (with_validity valid) (ap (λ i. i.items) c.into_iter-member-iterator.ensures.into_iter_gives ∙ c.iter-member-items.ensures.ascending))) c.loop-member.yielded _ c.loop-member.yielded_by _ _ c.in-None.is c.next.ensures.steps in
    let text = g.T.Display.output in
    let at = text_at bit g.T.EnumSetType.values text in
    writes_at (item_text text) (bit_with_validity bit) (text_with_validity at) (item_text-tells bit at text (text_at-tells bit g.met.T.EnumSetType.lawful.bit_tells g.T.EnumSetType.values text)) g.W.Write.write_str_gives c.loop-member.yielded _ _ _ end.0 c.loop-member.invariant.written
