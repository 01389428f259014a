use Rattle.std.proofs.Common.{◌≡◌}
use Rattle.enumset_sets.specs.Folds.{union_all}
use Rattle.enumset_sets.proofs.folds.EnumSetSum.sum.Given as goal

-- `all` is the union of the sets so far
abbrev pub invariant-loop-set : goal.invariant-loop-set
invariant-loop-set g l = l.all ≡ union_all l.yielded
