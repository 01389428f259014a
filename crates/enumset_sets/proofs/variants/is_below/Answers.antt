use Rattle.std.proofs.Common.{arith}
use Rattle.enumset_sets.proofs.Lists.{below_range}
use Rattle.enumset_sets.proofs.variants.is_below.Goals as goal

pub returns : goal.returns
returns c = omega (arith, below_range 0 c.args.count c.args.bit c.requires)
