use Rattle.std.proofs.Common.{◌≡◌, ◌++◌, true, map, string_bytes}
use Rattle.enumset.specs.Sets.{ascending}
use Rattle.example_set_facts.specs.Texts.{joined, title}
use Rattle.example_set_facts.proofs.texts.titles.Given as goal

-- the text so far, and then the titles of the remaining permissions
abbrev pub invariant-loop-asked : goal.invariant-loop-asked
invariant-loop-asked l = string_bytes l.text ++ joined l.is_first (map title l.asked-iterator.items) ≡ joined true (map title (ascending l.fn.granted))
