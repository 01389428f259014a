use Rattle.enumset_repr.proofs.asks.Asks.new.Given as goal

abbrev pub ghost-counted : goal.ghost-counted
ghost-counted a = 0
