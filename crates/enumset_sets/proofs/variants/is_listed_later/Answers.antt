use Rattle.enumset_sets.proofs.Lists.{is_in-later}
use Rattle.enumset_sets.proofs.variants.is_listed_later.Goals as goal

pub returns : goal.returns
returns c = is_in-later c.args.bit _ _ c.requires.listed c.requires.not_first
