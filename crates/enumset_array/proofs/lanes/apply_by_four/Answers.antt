use Rattle.std.proofs.Common.{refl, ◌+◌, ◌*◌, arith}
use Rattle.enumset_array.proofs.WordLanes.{all_made, one_made, lanes_made}
use Rattle.enumset_array.proofs.lanes.apply_by_four.Goals as goal

pub loop-k-init : goal.loop-k-init
loop-k-init g c = refl

pub loop-k-preserved : goal.loop-k-preserved
loop-k-preserved g c = rw c.on_lanes-lanes.ensures (lanes_made _ _ _ _ (4 * c.loop-k.k) 4 (4 * (c.loop-k.k + 1)) c.requires (omega arith) (omega arith) c.loop-k.invariant)

pub loop-i-preserved : goal.loop-i-preserved
loop-i-preserved g c = rw c.on_words.ensures (one_made _ _ _ _ c.loop-i.i c.requires (omega arith) c.loop-i.invariant)

pub returns : goal.returns
returns g c = all_made _ _ _ _ c.loop-i.i c.requires (omega arith) c.loop-i.invariant
