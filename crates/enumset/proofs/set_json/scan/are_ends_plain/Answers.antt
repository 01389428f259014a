use Rattle.std.proofs.Common.{◌-◌, length, take, drop, subst, arith, eqb-true, take_all}
use Rattle.enumset.proofs.JsonScans.{run_on}
use Rattle.enumset.proofs.set_json.scan.are_ends_plain.Goals as goal
use Rattle.enumset.specs.JsonPlain.{IsPlain, IsPlainByte}

pub returns-then-plain_before : goal.returns-then-plain_before
returns-then-plain_before g c = λ whole.
    let xs = c.args.bytes.now in
    let n = g.row.N in
    let front : IsPlain (take n xs) = subst (λ m. IsPlain (take m xs)) c.if-plain_before.true c.plain_before.ensures.plain in
    let back : IsPlain (take n (drop (length xs - n) xs)) = subst (λ m. IsPlain (take m (drop (length xs - n) xs))) (eqb-true _ _ whole) c.plain_before-then-plain_before.ensures.plain in
    subst IsPlain (take_all (length xs) xs (omega arith)) (run_on IsPlainByte xs n (length xs - n) n (length xs) (omega arith) (omega arith) front back)
