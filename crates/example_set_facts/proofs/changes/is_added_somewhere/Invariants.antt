use Rattle.std.proofs.Common.{◌≡◌, drop}
use Rattle.std.specs.List.{list_any}
use Rattle.enumset.specs.Sets.{contains}
use Rattle.example_set_facts.specs.Bits.{feature}
use Rattle.example_set_facts.proofs.changes.is_added_somewhere.Given as goal

-- no change so far adds the feature, so the remaining changes decide
abbrev pub invariant-loop-change : goal.invariant-loop-change
invariant-loop-change l = list_any (λ change. contains change.added (feature l.wanted)) (drop l.change-index l.changes) ≡ list_any (λ change. contains change.added (feature l.wanted)) l.changes
