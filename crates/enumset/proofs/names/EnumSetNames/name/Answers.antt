use Rattle.std.proofs.Common.{map, sym, ap, ◌∙◌, eq-eqb, ne_eqb}
use Rattle.std.proofs.lemmas.Bool.{cond-true, cond-false}
use Rattle.std.proofs.lemmas.List.{drop_all}
use Rattle.enumset.proofs.NameLists.{left_at, name_first}
use Rattle.enumset.proofs.NamePlaces.{name_there}
use Rattle.enumset.proofs.names.EnumSetNames.name.Goals as goal
use Rattle.enumset.specs.Names.{names_of, name_of}

pub returns : goal.returns
returns g c =
    let bs = g.Self.EnumSetType.elements.bit_list in
    let item = c.in-Some.ensures.lookup in
    sym (name_there (λ n. (g.Self.EnumSetType.elements.bit n.0, n.1.now)) c.names-names.result.now bs g.Self.EnumSetNames.names c.names-names.ensures c.enum_into_u32-bit.result c.in-Some.field-0.now item.3.0 item.1 g.met.Self.EnumSetType.lawful.distinct)
    ∙ ap (name_of (names_of g.Self.EnumSetType.elements g.Self.EnumSetNames.names)) (sym c.enum_into_u32.ensures ∙ c.if-enum_into_u32-bit.true ∙ c.enum_into_u32-bit.ensures)

pub loop-value-preserved : goal.loop-value-preserved
loop-value-preserved g c =
    sym (name_first (λ n. (g.Self.EnumSetType.elements.bit n.0, n.1.now)) _ _ _ (left_at _ _ c.loop-value-item.result c.loop-value-test.true c.loop-value-item.is) _
    ∙ cond-false _ _ _ (ne_eqb _ _ (λ same. c.if-enum_into_u32-bit-2.false (c.enum_into_u32-in-loop-value.ensures ∙ same))))
    ∙ c.loop-value.invariant

pub returns-then-enum_into_u32-bit-2 : goal.returns-then-enum_into_u32-bit-2
returns-then-enum_into_u32-bit-2 g c =
    sym (name_first (λ n. (g.Self.EnumSetType.elements.bit n.0, n.1.now)) _ _ _ (left_at _ _ c.loop-value-item.result c.loop-value-test.true c.loop-value-item.is) _
    ∙ cond-true _ _ _ (eq-eqb _ _ (sym c.enum_into_u32-in-loop-value.ensures ∙ c.if-enum_into_u32-bit-2.true)))
    ∙ c.loop-value.invariant
    ∙ (λ i. name_of (c.names-names.ensures i) (c.enum_into_u32-bit.ensures i))

pub returns-2 : goal.returns-2
returns-2 g c =
    sym (ap (λ ns. name_of (map (λ n. (g.Self.EnumSetType.elements.bit n.0, n.1.now)) ns) c.enum_into_u32-bit.result) (drop_all c.loop-value.value-index c.names-names.result.now c.loop-value-test.false))
    ∙ c.loop-value.invariant
    ∙ (λ i. name_of (c.names-names.ensures i) (c.enum_into_u32-bit.ensures i))
