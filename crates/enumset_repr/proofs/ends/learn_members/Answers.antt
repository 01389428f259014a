use Rattle.enumset_repr.proofs.ends.learn_members.Goals as goal

pub returns-clause-within : goal.returns-clause-within
returns-clause-within g c = g.met.R.EnumSetTypeRepr.represents.within _ c.learn_is_value.ensures
