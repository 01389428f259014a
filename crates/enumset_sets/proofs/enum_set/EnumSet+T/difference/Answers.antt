use Rattle.std.proofs.Common.{arith}
use Rattle.enumset_repr.specs.Laws.Members.{subsets}
use Rattle.enumset_sets.proofs.enum_set.EnumSet+T.difference.Goals as goal

pub of_repr-requires : goal.of_repr-requires
of_repr-requires g c = grind (arith, subsets)
