use Rattle.std.proofs.Common.{rules, sym, subst, below_more}
use Rattle.enumset_source.specs.Literals.{radix, IsNumberOf}
use Rattle.enumset_source.proofs.Digits.{one_more}
use Rattle.enumset_source.proofs.literals.read_digits.Goals as goal

pub loop-i-preserved : goal.loop-i-preserved
loop-i-preserved c = record {
  digits = below_more _ _ c.loop-i.invariant.digits (search rules);
  number = subst (λ n. IsNumberOf n c.in_ok-number.number) (sym (one_more (radix c.args.base) c.args.digits.now c.loop-i.i 0 (search rules))) (c.in_ok-number.ensures.number _ c.loop-i.invariant.number);
}
