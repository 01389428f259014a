use Rattle.std.proofs.Common.{◌≤◌, ◌+◌, length}
use Rattle.enumset.specs.JsonPlain.{IsPlainList}
use Rattle.enumset.specs.Names.{names_of}
use Rattle.enumset.proofs.PlainLists.{GoesOn}
use Rattle.enumset.proofs.PlainTexts.{NamesLeft}
use Rattle.enumset.proofs.set_json.plain_lists.read_plain_list.Given as goal

-- the text that is left goes on with the list; if the text is plain, there are more names
abbrev pub invariant-loop-place : goal.invariant-loop-place
invariant-loop-place g l =
    GoesOn (names_of g.T.EnumSetType.elements g.T.EnumSetNames.names) l.unknown l.text l.left l.place l.names.set l.names.first_unknown
    × (length l.left + l.place ≤ length l.text) × (IsPlainList l.text → NamesLeft l.left)
