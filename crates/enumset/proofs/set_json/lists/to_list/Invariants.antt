use Rattle.std.proofs.Common.{◌≡◌, ◌++◌, map}
use Rattle.serde_json.specs.Data.{string}
use Rattle.serde_json.specs.View.{view}
use Rattle.enumset.proofs.set_json.lists.to_list.Given as goal
use Rattle.enumset.specs.Names.{names_of, name_of}

-- the names so far and those of the members that are left are all names
abbrev pub invariant-loop-element : goal.invariant-loop-element
invariant-loop-element g l =
    map view l.list.items ++ map (λ b. string (name_of (names_of g.T.EnumSetType.elements g.T.EnumSetNames.names) b)) l.element-iterator.items
    ≡ map (λ b. string (name_of (names_of g.T.EnumSetType.elements g.T.EnumSetNames.names) b)) l.initial.element-iterator.items
