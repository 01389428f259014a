use Rattle.std.proofs.Common.{◌++◌, append-nil, map, sym, subst, ap, ◌∙◌}
use Rattle.enumset_sets.specs.Elements.{valid_bits}
use Rattle.enumset.proofs.NameLaws.{IsNaming-passes}
use Rattle.enumset.proofs.NamesSorted.{name_more, sorted_members}
use Rattle.enumset.proofs.set_json.plain_maps.write_plain_map.Goals as goal
use Rattle.enumset.specs.JsonPlain.{AreMembers}
use Rattle.enumset.specs.Names.{name_of, names_of}

pub loop-element-init : goal.loop-element-init
loop-element-init g c =
    let name = name_of (names_of g.T.EnumSetType.elements g.T.EnumSetNames.names) in
    let all = ap (λ i. i.items) c.into_iter-element-iterator.ensures.into_iter_gives ∙ c.iter-element-items.ensures.ascending in
    λ j. map (λ n. n.now) (c.in_ok-names.ensures.items j) ++ map name (all j)

pub loop-element-preserved : goal.loop-element-preserved
loop-element-preserved g c =
    let name = name_of (names_of g.T.EnumSetType.elements g.T.EnumSetNames.names) in
    ap (λ ns. map (λ n. n.now) ns ++ map name c.next.new.self.items) c.in_ok-push.ensures.items
    ∙ name_more name c.loop-element.names.items c.name.result _ _ _ c.in-Some.ensures.steps.0 c.name.ensures
    ∙ c.loop-element.invariant

pub returns : goal.returns
unfolding valid_bits
returns g c =
    let bits = g.T.EnumSetType.elements.bit_list in
    let are = IsNaming-passes bits g.T.EnumSetNames.names g.met.T.EnumSetNames.named in
    let name = name_of (names_of g.T.EnumSetType.elements g.T.EnumSetNames.names) in
    let texts = sym (append-nil _) ∙ ap (λ bs. map (λ n. n.now) c.loop-element.names.items ++ map name bs) (sym c.in-None.ensures.steps.0.0) ∙ c.loop-element.invariant in
    c.text_of_names.ensures (names_of g.T.EnumSetType.elements g.T.EnumSetNames.names) c.args.set.now
    (subst (AreMembers (names_of g.T.EnumSetType.elements g.T.EnumSetNames.names) c.args.set.now) (sym c.deref.ensures.value)
    (sorted_members bits g.T.EnumSetNames.names c.args.set.now _ _ are c.iter-element-items.ensures.valid texts c.sort_unstable.ensures.permutation c.sort_unstable.ensures.sorted))
