use Rattle.std.proofs.Common.{◌≡◌, ℕ, List, ◌++◌, true, map, Ok, codes}
use Rattle.std.specs.Fmt.{WritesOnOk}
use Rattle.enumset.specs.Names.{name_of}
use Rattle.example_permissions.specs.Reading.{right_names}
use Rattle.example_permissions.specs.Texts.{joined}
use Rattle.example_permissions.proofs.decision.DecisionDisplay.fmt.Given as goal

-- what was written, and then the names of the remaining rights, is the whole text
abbrev pub invariant-loop-right : goal.invariant-loop-right
invariant-loop-right g l =
    (text : List ℕ)
    × WritesOnOk g.W.Write.write_str_gives l.fn.f (Ok tt) text l.f
    × (text ++ joined l.is_first (map (name_of right_names) l.right-iterator.items) ≡ codes "denied: " ++ joined true (map (name_of right_names) l.initial.right-iterator.items))
