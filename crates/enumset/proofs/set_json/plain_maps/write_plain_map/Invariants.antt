use Rattle.std.proofs.Common.{◌≡◌, ◌++◌, map}
use Rattle.enumset_repr.specs.BitSet.{ascending}
use Rattle.enumset.proofs.set_json.plain_maps.write_plain_map.Given as goal
use Rattle.enumset.specs.Names.{name_of, names_of}

-- the names so far and those of the bits that are left are the names of the set's members
abbrev pub invariant-loop-element : goal.invariant-loop-element
invariant-loop-element g l =
    let name = name_of (names_of g.T.EnumSetType.elements g.T.EnumSetNames.names) in
    map (λ n. n.now) l.names.items ++ map name l.element-iterator.items ≡ map name (ascending l.set)
