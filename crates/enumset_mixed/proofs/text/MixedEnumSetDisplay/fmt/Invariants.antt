use Rattle.std.proofs.Common.{◌≡◌, ◌==◌, length, map, Ok}
use Rattle.std.specs.Fmt.{DisplaysOnOk}
use Rattle.enumset_sets.specs.Texts.{joined_text}
use Rattle.enumset_mixed.specs.Texts.{item_text}
use Rattle.enumset_mixed.proofs.text.MixedEnumSetDisplay.fmt.Given as goal

-- the texts of the members so far were written
abbrev pub invariant-loop-member : goal.invariant-loop-member
invariant-loop-member g l = record {
  first : l.is_first ≡ (length l.yielded == 0);
  written : DisplaysOnOk g.W.Write.write_str_gives l.fn.f (Ok tt) (joined_text (map (item_text g.T.Display.output) l.yielded)) l.f;
}
