use Rattle.std.proofs.Common.{rules}
use Rattle.example_set_facts.specs.Needs.{needs}
use Rattle.example_set_facts.proofs.needs.reachable_needs.Goals as goal

pub returns : goal.returns
returns c = c.reachable.ensures needs (search rules)
