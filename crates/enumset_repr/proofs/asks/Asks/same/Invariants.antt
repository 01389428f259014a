use Rattle.enumset_repr.proofs.asks.Asks.same.Given as goal

abbrev pub ghost-counted_from : goal.ghost-counted_from
ghost-counted_from a = a.other.now
