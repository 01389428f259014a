use Rattle.std.proofs.Common.{arith}
use Rattle.enumset_repr.specs.Laws.Members.{is_subset_itself, difference_is_subset}
use Rattle.enumset_sets.proofs.enum_set.EnumSet+T.complement.Goals as goal

pub of_repr-requires : goal.of_repr-requires
of_repr-requires g c = grind (arith, is_subset_itself, difference_is_subset)
