use Rattle.std.proofs.Common.{◌≡◌, ◌==◌, length, map, Ok}
use Rattle.std.specs.Fmt.{DisplaysOnOk}
use Rattle.enumset_sets.specs.Texts.{joined_text}
use Rattle.enumset_sets.proofs.text.EnumSetDisplay.fmt.Given as goal

-- the texts of the elements so far were written
abbrev pub invariant-loop-element : goal.invariant-loop-element
invariant-loop-element g l = record {
  first : l.is_first ≡ (length l.yielded == 0);
  written : DisplaysOnOk g.W.Write.write_str_gives l.fn.f (Ok tt) (joined_text (map g.T.Display.output l.yielded)) l.f;
}
