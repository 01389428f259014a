use Rattle.enumset_array.proofs.WordLanes.{turned_lanes}
use Rattle.enumset_array.proofs.set_operation.AndNotSetOperation.on_lanes.Goals as goal

pub returns : goal.returns
returns c = turned_lanes c.args.a c.args.b
