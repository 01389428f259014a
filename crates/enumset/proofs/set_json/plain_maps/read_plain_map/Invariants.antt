use Rattle.std.proofs.Common.{◌≤◌, ◌+◌, length}
use Rattle.enumset.specs.JsonPlain.{IsPlainMap}
use Rattle.enumset.specs.Names.{names_of}
use Rattle.enumset.proofs.MapsRead.{Scanned}
use Rattle.enumset.proofs.PlainMembers.{MembersLeft}
use Rattle.enumset.proofs.set_json.plain_maps.read_plain_map.Given as goal

-- the text that is left goes on with the map; if the text is plain, there are more members
abbrev pub invariant-loop : goal.invariant-loop
invariant-loop g l =
    let names = names_of g.T.EnumSetType.elements g.T.EnumSetNames.names in
    Scanned names l.text l.left l.seen l.set × (length l.left + l.counter ≤ length l.text) × (IsPlainMap names l.text → MembersLeft names l.seen l.left)
