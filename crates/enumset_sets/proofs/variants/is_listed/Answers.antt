use Rattle.enumset_sets.proofs.Lists.{not_none}
use Rattle.enumset_sets.proofs.variants.is_listed.Goals as goal

pub returns : goal.returns
returns c = not_none c.args.bit _ c.requires
