use Rattle.std.proofs.Common.{◌≡◌, Err, arith, rules}
use Rattle.std.proofs.lemmas.Result.{IfErr-weaker, on_ok_weaker}
use Rattle.example_expressions.proofs.Reading.{kind_at, end_at, step, fault, accepted}
use Rattle.example_expressions.proofs.parser.check.Goals as goal

pub returns-in_err-read-clause-refused : goal.returns-in_err-read-clause-refused
returns-in_err-read-clause-refused c =
    let failed : c.from_residual.result ≡ Err c.in_err-read.field-0.0 = search rules in
    let at = c.loop-token.invariant in
    rw failed (fault _ _ _ at _ _ (omega arith) (kind_at _ _ _ at _ c.loop-token-test.true) c.in_err-read.ensures.fault)

pub loop-token-preserved : goal.loop-token-preserved
loop-token-preserved c = step _ _ _ c.loop-token.invariant _ _ c.loop-token-test.true c.in_ok-read.ensures.read c.in_ok-read.ensures.depth

pub returns-clause-accepted : goal.returns-clause-accepted
returns-clause-accepted c = on_ok_weaker c.read-2.result (accepted _ _ _ c.loop-token.invariant _ c.loop-token-test.false) c.read-2.ensures.read

pub returns-clause-refused : goal.returns-clause-refused
returns-clause-refused c =
    let at = c.loop-token.invariant in IfErr-weaker c.read-2.result _ _ (λ f. fault _ _ _ at _ f (omega arith) (end_at _ _ _ at c.loop-token-test.false)) c.read-2.ensures.fault
