use Rattle.std.proofs.Common.{◌≡◌, ◌+◌, drop, length}
use Rattle.enumset_source.specs.Literals.{before_type}
use Rattle.enumset_source.proofs.literals.end_of_digits.Given as goal

-- no type has begun
abbrev pub invariant-loop-i : goal.invariant-loop-i
invariant-loop-i l = length (before_type l.literal) ≡ l.i + length (before_type (drop l.i l.literal))
