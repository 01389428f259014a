use Rattle.std.proofs.Common.{◌≡◌, ◌+◌, false, None, Some, Err, is_none, unwrap_or, string_bytes, length, map, sym, ap, ◌∙◌, arith, rules}
use Rattle.std.proofs.lemmas.Grind.{common_steps}
use Rattle.serde_json.specs.Find.{as_bool}
use Rattle.serde_json.specs.View.{view, members_view}
use Rattle.enumset_repr.specs.BitSet.{empty}
use Rattle.enumset.proofs.NamesRead.{seen, map_on, map_read, read_fault, read_next, read_end}
use Rattle.enumset.proofs.set_json.maps.from_map.Goals as goal
use Rattle.enumset.specs.JsonNames.{members_in, set_of_members}
use Rattle.enumset.specs.Names.{names_of, bit_named}
use Rattle.enumset.specs.declared.set_json.fault.JsonFault.TheVariants.{NotABoolean}

pub loop-place-init : goal.loop-place-init
loop-place-init g c = (omega (arith, c.iter-name-items.ensures.fits, ap length c.iter-name-items.ensures.rest), λ j. map_on (names_of g.T.EnumSetType.elements g.T.EnumSetNames.names) c.args.unknown 0 (c.new-names.ensures.set j) (c.new-names.ensures.first j) (map seen c.iter-name-items.result))

pub returns-in_err-is_member : goal.returns-in_err-is_member
returns-in_err-is_member g c =
    let names = names_of g.T.EnumSetType.elements g.T.EnumSetNames.names in
    let no_boolean : as_bool (view c.in-Some.value.now) ≡ None = grind (arith, c.as_bool.ensures, c.in_err-is_member.ensures.variant) in
    let whole : set_of_members names c.args.unknown (members_in (members_view c.in_ok-members.members.now.entries)) ≡ Err (NotABoolean c.loop-place.place) =
    sym (map_read names c.args.unknown c.in_ok-members.members.now.entries)
    ∙ ap (λ ms. map_on names c.args.unknown 0 empty None (map seen ms)) (sym c.iter-name-items.ensures.rest)
    ∙ sym c.loop-place.invariant.1
    ∙ read_fault _ _ _ _ _ _ c.loop-place.place c.loop-place.names.set c.loop-place.names.first_unknown _ _ _ (ap (map seen) c.in-Some.ensures.steps) (ap is_none no_boolean) in
    search rules

pub loop-place-preserved : goal.loop-place-preserved
loop-place-preserved g c =
    let names = names_of g.T.EnumSetType.elements g.T.EnumSetNames.names in
    let rest = map seen c.next.new.self in
    let is : as_bool (view c.in-Some.value.now) ≡ Some c.in_ok-is_member.is_member = sym c.as_bool.ensures ∙ c.in_ok-is_member.ensures.ok_part in
    let bit = bit_named names c.as_bytes.result.now in
    let named : bit ≡ bit_named names (string_bytes c.in-Some.name.now) = ap (bit_named names) c.as_bytes.ensures.value in (
      omega (arith, c.loop-place.invariant.0, ap length c.in-Some.ensures.steps),
      (λ j. map_on names c.args.unknown (c.loop-place.place + 1) (c.take.ensures.set j) (c.take.ensures.first j) rest)
          ∙ sym (read_next _ _ _ _ _ _ c.loop-place.place c.loop-place.names.set c.loop-place.names.first_unknown _ rest _ (ap (map seen) c.in-Some.ensures.steps) bit c.in_ok-is_member.is_member (ap is_none is) (ap (λ o. unwrap_or o false) is) (sym named)) ∙ c.loop-place.invariant.1,
    )

pub returns : goal.returns
returns g c =
    let names = names_of g.T.EnumSetType.elements g.T.EnumSetNames.names in
    let whole : c.into_set.result ≡ set_of_members names c.args.unknown (members_in (members_view c.in_ok-members.members.now.entries)) =
    c.into_set.ensures
    ∙ sym (read_end _ _ _ _ names c.args.unknown c.loop-place.place c.loop-place.names.set c.loop-place.names.first_unknown _ (ap (map seen) c.in-None.ensures.steps.0))
    ∙ c.loop-place.invariant.1
    ∙ ap (λ ms. map_on names c.args.unknown 0 empty None (map seen ms)) c.iter-name-items.ensures.rest
    ∙ map_read names c.args.unknown c.in_ok-members.members.now.entries in
    first_of (search rules, grind (arith, common_steps, whole))
