use Rattle.std.proofs.Common.{◌≡◌, ◌++◌, drop}
use Rattle.enumset_source.specs.Styles.{styled_from, styled}
use Rattle.enumset_source.proofs.styles.spelled.Given as goal

-- the bytes so far and the rest of the name are the name in the style
abbrev pub invariant-loop-i : goal.invariant-loop-i
invariant-loop-i l = l.bytes.items ++ styled_from l.style l.i (drop l.i l.name) ≡ styled l.style l.name
