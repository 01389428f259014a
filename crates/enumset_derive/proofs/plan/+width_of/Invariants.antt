use Rattle.std.proofs.Common.{length}
use Rattle.enumset_derive.proofs.plan.+width_of.Given as goal

abbrev pub decreases-width_of : goal.decreases-width_of
decreases-width_of l = length l.named.now
