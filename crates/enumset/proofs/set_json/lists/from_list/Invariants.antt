use Rattle.std.proofs.Common.{◌≡◌, None, map, drop}
use Rattle.serde_json.specs.View.{view}
use Rattle.enumset_repr.specs.BitSet.{empty}
use Rattle.enumset.proofs.NamesRead.{list_on}
use Rattle.enumset.proofs.set_json.lists.from_list.Given as goal
use Rattle.enumset.specs.Names.{names_of}

-- reading the remaining items, from what was read so far, has the same result as reading the whole list
abbrev pub invariant-loop-place : goal.invariant-loop-place
invariant-loop-place g l =
    list_on (names_of g.T.EnumSetType.elements g.T.EnumSetNames.names) l.unknown l.place l.names.set l.names.first_unknown (map view (drop l.place l.item-items))
    ≡ list_on (names_of g.T.EnumSetType.elements g.T.EnumSetNames.names) l.unknown 0 empty None (map view l.item-items)
