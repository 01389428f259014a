use Rattle.enumset_repr.specs.Laws.Members.{is_subset_itself}
use Rattle.enumset_sets.proofs.enum_set.EnumSet+T.all.Goals as goal

pub of_repr-requires : goal.of_repr-requires
of_repr-requires g c = rw c.valid_repr.ensures.members (is_subset_itself _)
