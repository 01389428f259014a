use Rattle.std.proofs.Common.{◌≡◌, ◌+◌, true, None, Some, Err, is_none, option_map, unwrap_or, [], map, drop, refl, sym, ap, ◌∙◌, arith, rules}
use Rattle.std.proofs.lemmas.Grind.{common_steps}
use Rattle.std.proofs.lemmas.List.{drop_all}
use Rattle.serde_json.specs.Find.{as_str}
use Rattle.serde_json.specs.View.{view, items_view}
use Rattle.enumset.proofs.NameLists.{left_at}
use Rattle.enumset.proofs.NamesRead.{list_on, list_read, read_fault, read_next, read_end}
use Rattle.enumset.proofs.set_json.lists.from_list.Goals as goal
use Rattle.enumset.specs.Json.{values_of}
use Rattle.enumset.specs.JsonNames.{set_of_values}
use Rattle.enumset.specs.Names.{names_of, bit_named}
use Rattle.enumset.specs.declared.set_json.fault.JsonFault.TheVariants.{NotAText}

pub loop-place-init : goal.loop-place-init
loop-place-init g c =
    λ j. list_on (names_of g.T.EnumSetType.elements g.T.EnumSetNames.names) c.args.unknown 0 (c.new-names.ensures.set j) (c.new-names.ensures.first j) (map view c.deref-item-items.result.now)

pub returns-in_err-name : goal.returns-in_err-name
returns-in_err-name g c =
    let names = names_of g.T.EnumSetType.elements g.T.EnumSetNames.names in
    let no_text : as_str (view c.item-item.result) ≡ None = grind (arith, c.as_str.ensures, c.in_err-name.ensures.variant) in
    let whole : set_of_values names c.args.unknown (values_of (items_view c.deref-item-items.result.now)) ≡ Err (NotAText c.loop-place.place) =
    sym (list_read names c.args.unknown c.deref-item-items.result.now) ∙ sym c.loop-place.invariant
    ∙ read_fault _ _ _ _ _ _ c.loop-place.place c.loop-place.names.set c.loop-place.names.first_unknown _ _ _ (ap (map view) (left_at c.deref-item-items.result.now c.loop-place.place c.item-item.result c.loop-place-test.true c.item-item.is)) (ap is_none no_text) in
    search rules

pub loop-place-preserved : goal.loop-place-preserved
loop-place-preserved g c =
    let names = names_of g.T.EnumSetType.elements g.T.EnumSetNames.names in
    let rest = map view (drop (c.loop-place.place + 1) c.deref-item-items.result.now) in
    let text : as_str (view c.item-item.result) ≡ Some c.in_ok-name.name.now = sym c.as_str.ensures ∙ ap (option_map (λ t. t.now)) c.in_ok-name.ensures.ok_part in
    let here = ap (map view) (left_at c.deref-item-items.result.now c.loop-place.place c.item-item.result c.loop-place-test.true c.item-item.is) in
    let bit = bit_named names c.as_bytes.result.now in
    let named : bit ≡ bit_named names c.in_ok-name.name.now = ap (bit_named names) c.as_bytes.ensures.value in
    (λ j. list_on names c.args.unknown (c.loop-place.place + 1) (c.take.ensures.set j) (c.take.ensures.first j) rest)
    ∙ sym (read_next _ _ _ _ _ _ c.loop-place.place c.loop-place.names.set c.loop-place.names.first_unknown _ rest _ here bit true (ap is_none text) refl (ap (λ o. bit_named names (unwrap_or o [])) text ∙ sym named)) ∙ c.loop-place.invariant

pub returns : goal.returns
returns g c =
    let names = names_of g.T.EnumSetType.elements g.T.EnumSetNames.names in
    let whole : c.into_set.result ≡ set_of_values names c.args.unknown (values_of (items_view c.deref-item-items.result.now)) =
    c.into_set.ensures
    ∙ sym (read_end _ _ _ _ names c.args.unknown c.loop-place.place c.loop-place.names.set c.loop-place.names.first_unknown _ (ap (map view) (drop_all c.loop-place.place c.deref-item-items.result.now c.loop-place-test.false)))
    ∙ c.loop-place.invariant
    ∙ list_read names c.args.unknown c.deref-item-items.result.now in
    first_of (search rules, grind (arith, common_steps, whole))
