use Rattle.std.proofs.Common.{rules, [], ◌∷◌, ◌++◌, string_bytes, map, ap, subst, sym, ◌∙◌}
use Rattle.enumset.proofs.JsonLists.{Writes, begins, next_name, ended, list_written}
use Rattle.enumset.proofs.set_json.plain_lists.write_plain_list.Goals as goal
use Rattle.enumset.specs.Names.{names_of, name_of}

pub loop-element-init : goal.loop-element-init
loop-element-init g c = begins _ c.in_ok-text.ensures.bytes

pub loop-element-preserved : goal.loop-element-preserved
loop-element-preserved g c =
    let texts = map (name_of (names_of g.T.EnumSetType.elements g.T.EnumSetNames.names)) in
    next_name _ c.name-name.result.now _ _ _ (ap texts c.in-Some.ensures.steps.0 ∙ ap (λ t. t ∷ texts c.next.new.self.items) (sym c.name-name.ensures)) (search rules)
    (c.in_ok-push_str.ensures.bytes ∙ ap (λ t. t ++ c.name-name.result.now) c.in_ok-push_either.ensures) c.loop-element.invariant

pub returns : goal.returns
returns g c =
    let names = names_of g.T.EnumSetType.elements g.T.EnumSetNames.names in
    let items = ap (λ i. i.items) c.into_iter-element-iterator.ensures.into_iter_gives ∙ c.iter-element-items.ensures.ascending in
    let (is, plain) = ended _ _ _ (ap (map (name_of names)) c.in-None.ensures.steps.0.0) c.in_ok-push_either-2.ensures
    (subst (λ bs. Writes (91 ∷ []) (34 ∷ []) (93 ∷ []) (map (name_of names) bs) (string_bytes c.loop-element.text) (map (name_of names) c.loop-element.element-iterator.items)) items c.loop-element.invariant) in
    list_written names c.args.set.now _ is plain
