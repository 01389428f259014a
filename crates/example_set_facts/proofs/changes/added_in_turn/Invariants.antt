use Rattle.std.proofs.Common.{◌≡◌, drop, map, fold}
use Rattle.enumset.specs.Sets.{union, union_all}
use Rattle.example_set_facts.proofs.changes.added_in_turn.Given as goal

-- what the changes so far add, and then what the remaining changes add
abbrev pub invariant-loop-change : goal.invariant-loop-change
invariant-loop-change l = fold union l.all (map (λ change. change.added) (drop l.change-index l.changes)) ≡ union_all (map (λ change. change.added) l.changes)
