use Rattle.std.proofs.Common.{◌≡◌, ◌-◌, ◌≤◌, length, take, drop, arith, length-drop}
use Rattle.std.proofs.KnownBytes.{Appends-trans, Appends-kept}
use Rattle.std.proofs.Math.Seq.{take-add}
use Rattle.std.proofs.lemmas.List.{take_rest}
use Rattle.enumset_run.proofs.program.write_output.Goals as goal
use Rattle.enumset_run.proofs.program.write_output.Goals.{in-Ok-2, in-Err}

pub loop-preserved : goal.loop-preserved
loop-preserved g c =
    let contents = g.W.Write.contents in
    let old = contents c.args.writer.now in
    let before = contents c.loop.writer in
    let after = contents c.write.new.self in
    let out = c.args.output.now in
    let n = c.loop.count in
    let rest : take (length out - n) (drop n out) ≡ drop n out = take_rest out n in
    elim c.match-write.branch [
      | in-Ok-2 w ↦
          let bound : w.in-Ok.more ≤ length (drop n out) = rw (← rest) w.in-Ok.ensures.bound in
          record {
            written = rw (w.count-is, take-add n w.in-Ok.more out) (Appends-trans old before after (take n out) (take w.in-Ok.more (drop n out)) c.loop.invariant.written (rw rest at w.in-Ok.ensures.bytes));
            more = rw w.count-is (omega (arith, bound, length-drop n out, c.loop.invariant.more, w.if-count-more.false));
          }
      | in-Err w ↦ record {
        written = rw w.count-is (Appends-kept old before after (take n out) c.loop.invariant.written w.in-Err.ensures.bytes);
        more = rw w.count-is c.loop.invariant.more;
      }
    ]
