use Rattle.std.proofs.Common.{◌≡◌, map}
use Rattle.enumset_sets.specs.Folds.{union_all}
use Rattle.enumset.proofs.folds.into_sets.sum_set_refs.Given as goal

-- `all` is the union of the sets so far
abbrev pub invariant-loop-set : goal.invariant-loop-set
invariant-loop-set g l = l.all ≡ union_all (map (λ s. s.now) l.yielded)
