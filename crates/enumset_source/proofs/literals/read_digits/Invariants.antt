use Rattle.std.proofs.Common.{ℕ, ◌<◌, take, get_or}
use Rattle.enumset_source.specs.Literals.{radix, number_in, IsDigit, IsNumberOf}
use Rattle.enumset_source.proofs.literals.read_digits.Given as goal

-- the number is that of the digits so far
abbrev pub invariant-loop-i : goal.invariant-loop-i
invariant-loop-i l = record {
  digits : (k : ℕ) → k < l.i → IsDigit (radix l.base) (get_or l.digits k 0);
  number : IsNumberOf (number_in (radix l.base) (take l.i l.digits)) l.number;
}
