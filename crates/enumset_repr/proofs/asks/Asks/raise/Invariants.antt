use Rattle.std.proofs.Common.{◌+◌}
use Rattle.enumset_repr.proofs.asks.Asks.raise.Given as goal

abbrev pub ghost-counted_from : goal.ghost-counted_from
ghost-counted_from a = a.other.now + 1
