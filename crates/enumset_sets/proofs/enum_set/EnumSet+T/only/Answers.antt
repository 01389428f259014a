use Rattle.enumset_repr.specs.Laws.Members.{empty_is_subset, insert_is_subset}
use Rattle.enumset_sets.proofs.enum_set.EnumSet+T.only.Goals as goal

pub of_repr-requires : goal.of_repr-requires
of_repr-requires g c =
    rw (c.add_bit.ensures.members, c.EMPTY-repr.ensures, g.met.T.Repr.EnumSetTypeRepr.represents.no_member) (insert_is_subset _ _ _ (empty_is_subset _) c.bit_index.ensures.valid)
