use Rattle.std.proofs.Common.{rules}
use Rattle.example_fixed_points.specs.Tables.{row}
use Rattle.example_fixed_points.proofs.states.to_come.Goals as goal

pub returns : goal.returns
returns c = c.reachable.ensures (row c.args.table.now) (search rules)
