use Rattle.enumset_run.specs.declared.program.TheConstants.{READ_LIMIT}
use Rattle.enumset_run.proofs.Inputs.{all_read}
use Rattle.enumset_run.proofs.program.read_input.Goals as goal

pub returns-in-Ok-clause-bytes : goal.returns-in-Ok-clause-bytes
returns-in-Ok-clause-bytes g c =
    all_read READ_LIMIT (g.R.Read.remaining c.args.reader) c.args.room.items c.read_to_end.new.buf.items c.requires.empty (rw (c.take-reader.ensures.limit, c.take-reader.ensures.inner) at c.in-Ok.ensures.bytes)
