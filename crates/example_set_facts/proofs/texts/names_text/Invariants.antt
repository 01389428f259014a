use Rattle.std.proofs.Common.{◌≡◌, ◌++◌, true, map, string_bytes}
use Rattle.enumset.specs.Sets.{ascending}
use Rattle.enumset.specs.Names.{name_of, names_of}
use Rattle.example_set_facts.specs.Texts.{joined}
use Rattle.example_set_facts.proofs.texts.names_text.Given as goal

-- the text so far, and then the names of the remaining elements
abbrev pub invariant-loop-element : goal.invariant-loop-element
invariant-loop-element g l = string_bytes l.text ++ joined l.is_first (map (name_of (names_of g.T.EnumSetType.elements g.T.EnumSetNames.names)) l.element-iterator.items) ≡ joined true (map (name_of (names_of g.T.EnumSetType.elements g.T.EnumSetNames.names)) (ascending l.members))
