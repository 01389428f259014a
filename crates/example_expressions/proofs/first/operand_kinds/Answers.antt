use Rattle.example_expressions.proofs.Firsts.{sum_begins}
use Rattle.example_expressions.proofs.first.operand_kinds.Goals as goal

pub returns : goal.returns
returns c = sum_begins _ c.first_kinds.ensures
