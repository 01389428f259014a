use Rattle.std.proofs.Common.{◌≡◌, drop, fold}
use Rattle.enumset.specs.Sets.{union, union_all}
use Rattle.example_set_facts.proofs.walks.united.Given as goal

-- the union so far, and then the remaining sets
abbrev pub invariant-loop-members : goal.invariant-loop-members
invariant-loop-members g l = fold union l.all (drop l.members-index l.sets) ≡ union_all l.sets
