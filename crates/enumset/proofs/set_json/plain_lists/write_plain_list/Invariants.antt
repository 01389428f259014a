use Rattle.std.proofs.Common.{string_bytes, ◌∷◌, [], map}
use Rattle.enumset.proofs.JsonLists.{Writes}
use Rattle.enumset.proofs.set_json.plain_lists.write_plain_list.Given as goal
use Rattle.enumset.specs.Names.{names_of, name_of}

-- the text so far and the names of the members that are left make the whole text; all names are plain if those left are
abbrev pub invariant-loop-element : goal.invariant-loop-element
invariant-loop-element g l =
    let text_of = map (name_of (names_of g.T.EnumSetType.elements g.T.EnumSetNames.names)) in
    Writes (91 ∷ []) (34 ∷ []) (93 ∷ []) (text_of l.initial.element-iterator.items) (string_bytes l.text) (text_of l.element-iterator.items)
