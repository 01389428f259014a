use Rattle.std.proofs.Common.{◌<◌, length, take}
use Rattle.std.specs.Io.KnownBytes.{Appends}
use Rattle.enumset_run.proofs.program.write_output.Given as goal

-- the first bytes of the output have been written, but not all of it
abbrev pub invariant-loop : goal.invariant-loop
invariant-loop g l = record {
  written : Appends (g.W.Write.contents l.fn.writer) (g.W.Write.contents l.writer) (take l.count l.output);
  more : l.count < length l.output;
}
