use Rattle.std.proofs.Common.{◌≡◌, Some, option_map, arith, sym, ap, ◌∙◌}
use Rattle.std.proofs.lemmas.Grind.{common_steps}
use Rattle.enumset.proofs.NameLaws.{IsNaming-passes}
use Rattle.enumset.proofs.NamesFound.{cut, found_later, found_earlier}
use Rattle.enumset.proofs.names.find_value.Goals as goal
use Rattle.enumset.specs.Names.{names_of, bit_named}

pub returns-in-Some : goal.returns-in-Some
returns-in-Some g c =
    let bs = g.T.EnumSetType.elements.bit_list in
    let names = g.T.EnumSetNames.names in
    let are = IsNaming-passes bs names g.met.T.EnumSetNames.named in
    let whole = cut (λ n. (g.T.EnumSetType.elements.bit n.0, n.1.now)) c.names-names.result.now c.split_at.result.0.now c.split_at.result.1.now _ c.split_at.ensures.front c.split_at.ensures.back ∙ c.names-names.ensures in
    let found : bit_named (names_of g.T.EnumSetType.elements names) c.args.wanted.now ≡ Some (g.T.EnumSetType.elements.bit c.in-Some.value) = found_later bs names _ _ c.args.wanted.now whole are.as_many are.distinct _ (sym c.in-Some.ensures.named) in
    first_of (cc, grind (arith, common_steps, found, c.in-Some.value-is))

pub returns-in_err-place : goal.returns-in_err-place
returns-in_err-place g c =
    let whole = cut (λ n. (g.T.EnumSetType.elements.bit n.0, n.1.now)) c.names-names.result.now c.split_at.result.0.now c.split_at.result.1.now _ c.split_at.ensures.front c.split_at.ensures.back ∙ c.names-names.ensures in
    ap (option_map g.T.EnumSetType.elements.bit) c.from_residual.ensures ∙ c.in_err-place.ensures.named
    ∙ sym (found_earlier g.T.EnumSetType.elements.bit_list g.T.EnumSetNames.names _ _ c.args.wanted.now whole (sym c.in_default.ensures.named))

pub returns : goal.returns
returns g c =
    let whole = cut (λ n. (g.T.EnumSetType.elements.bit n.0, n.1.now)) c.names-names.result.now c.split_at.result.0.now c.split_at.result.1.now _ c.split_at.ensures.front c.split_at.ensures.back ∙ c.names-names.ensures in
    c.in_ok-place.ensures.named
    ∙ sym (found_earlier g.T.EnumSetType.elements.bit_list g.T.EnumSetNames.names _ _ c.args.wanted.now whole (sym c.in_default.ensures.named))
