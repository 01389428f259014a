use Rattle.std.proofs.Common.{refl}
use Rattle.enumset_repr.specs.Laws.Ascending.{ascending_ascends}
use Rattle.enumset_sets.specs.Elements.{AreBitsOf, valid_bits}
use Rattle.enumset_sets.specs.Laws.Elements.{bits_are_listed}
use Rattle.enumset_sets.proofs.enum_set_iter.EnumSetIter.over.Goals as goal

pub invariant_of-result : goal.invariant_of-result
unfolding valid_bits AreBitsOf
invariant_of-result g c = rw c.iter.ensures.rest (record { ascends = ascending_ascends _; valid = bits_are_listed _ _ _ refl c.requires })
