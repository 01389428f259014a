use Rattle.std.proofs.Common.{◌≡◌, ◌+◌, ◌<◌, ◌^◌, None, map}
use Rattle.enumset_repr.specs.BitSet.{empty}
use Rattle.enumset.proofs.NamesRead.{map_on, seen}
use Rattle.enumset.proofs.set_json.maps.from_map.Given as goal
use Rattle.enumset.specs.Names.{names_of}

-- reading the remaining members, from what was read so far, has the same result as reading the whole map
abbrev pub invariant-loop-place : goal.invariant-loop-place
invariant-loop-place g l =
    (l.place + (goal.iterator-loop-place g).remaining l.name-iterator < 2 ^ 64)
    × (map_on (names_of g.T.EnumSetType.elements g.T.EnumSetNames.names) l.unknown l.place l.names.set l.names.first_unknown (map seen l.name-iterator)
    ≡ map_on (names_of g.T.EnumSetType.elements g.T.EnumSetNames.names) l.unknown 0 empty None (map seen l.initial.name-iterator))
