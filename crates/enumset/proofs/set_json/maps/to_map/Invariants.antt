use Rattle.std.proofs.Common.{◌≡◌}
use Rattle.serde_json.specs.Data.{no_members}
use Rattle.serde_json.specs.View.{members_view}
use Rattle.enumset.proofs.set_json.maps.to_map.Given as goal
use Rattle.enumset.specs.JsonNames.{with_bits_true}
use Rattle.enumset.specs.Names.{names_of}

-- the members so far and those of the bits that are left are all members
abbrev pub invariant-loop-element : goal.invariant-loop-element
invariant-loop-element g l =
    with_bits_true (names_of g.T.EnumSetType.elements g.T.EnumSetNames.names) (members_view l.members.entries) l.element-iterator.items
    ≡ with_bits_true (names_of g.T.EnumSetType.elements g.T.EnumSetNames.names) no_members l.initial.element-iterator.items
