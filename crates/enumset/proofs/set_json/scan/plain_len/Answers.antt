use Rattle.std.proofs.Common.{◌*◌, ◌+◌, ◌<◌, length, refl, arith}
use Rattle.enumset.specs.JsonPlain.{IsPlainByte}
use Rattle.enumset.proofs.JsonScans.{one_more, run_on, begins_at}
use Rattle.enumset.proofs.set_json.scan.plain_len.Goals as goal

pub returns-then-before-lt16-clause-plain : goal.returns-then-before-lt16-clause-plain
returns-then-before-lt16-clause-plain c =
    let start = 16 * c.loop-k.k in
    run_on IsPlainByte c.args.bytes.now start start _ (start + c.plain_before-before.result) (omega arith) refl c.loop-k.invariant c.plain_before-before.ensures.plain

pub loop-k-preserved : goal.loop-k-preserved
loop-k-preserved c =
    let start = 16 * c.loop-k.k in
    run_on IsPlainByte c.args.bytes.now start start c.plain_before-before.result (16 * (c.loop-k.k + 1)) (omega arith) (omega arith) c.loop-k.invariant c.plain_before-before.ensures.plain

pub loop-i-preserved : goal.loop-i-preserved
loop-i-preserved c = one_more IsPlainByte c.args.bytes.now c.loop-i.i c.loop-i-test.true c.loop-i.invariant (c.if-not-is_plain_byte.ensures.0 refl)

pub returns-then-before-lt16-clause-most : goal.returns-then-before-lt16-clause-most
returns-then-before-lt16-clause-most c = λ begins.
    let at = 16 * c.loop-k.k + c.plain_before-before.result in
    let within : at < length c.args.bytes.now = omega arith in
    c.plain_before-before.ensures.most c.if-before-lt16.true (begins_at IsPlainByte c.args.bytes.now at within begins)
