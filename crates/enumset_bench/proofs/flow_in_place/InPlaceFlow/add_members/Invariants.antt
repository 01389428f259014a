use Rattle.enumset.specs.Sets.{len}
use Rattle.enumset_bench.proofs.flow_in_place.InPlaceFlow.add_members.Given as goal

abbrev pub decreases-loop-first : goal.decreases-loop-first
decreases-loop-first g l = len l.left
