use Rattle.enumset_repr.proofs.asks.Asks.counted_from.Given as goal

abbrev pub ghost-counted : goal.ghost-counted
ghost-counted g a = g.n
