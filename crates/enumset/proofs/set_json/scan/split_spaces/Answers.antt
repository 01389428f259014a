use Rattle.std.proofs.Common.{◌≡◌, true, slice_index_or, arith}
use Rattle.std.proofs.lemmas.Grind.{common_steps}
use Rattle.enumset.proofs.JsonScans.{one_more}
use Rattle.enumset.proofs.set_json.scan.split_spaces.Goals as goal
use Rattle.enumset.specs.JsonPlain.{is_space}

pub loop-i-preserved : goal.loop-i-preserved
loop-i-preserved c =
    let space : is_space (slice_index_or c.args.bytes.now c.loop-i.i 0) ≡ true = grind (arith, common_steps) in
    one_more (λ x. is_space x ≡ true) c.args.bytes.now c.loop-i.i c.loop-i-test.true c.loop-i.invariant space
