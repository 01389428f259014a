use Rattle.std.proofs.Common.{arith}
use Rattle.std.proofs.lemmas.Grind.{common_steps}
use Rattle.enumset.proofs.DigitsWritten.{put_last_eight}
use Rattle.enumset.proofs.set_json.digits.push_digits.Goals as goal

pub returns : goal.returns
returns c =
    let all = put_last_eight c.as_mut_slice-row.result.now c.put_twelve-next.new.row c.put_four.new.row c.put_four-2.new.row c.len-begin.result c.put_twelve-next.result c.args.number (omega arith) (omega arith) c.put_twelve-next.ensures.written c.put_four.ensures c.put_four-2.ensures in
    grind (arith, common_steps, all)
