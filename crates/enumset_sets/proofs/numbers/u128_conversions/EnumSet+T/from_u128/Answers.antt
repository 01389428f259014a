use Rattle.std.proofs.Common.{◌∙◌}
use Rattle.enumset_repr.specs.Laws.Algebra.{is_subset_trans}
use Rattle.enumset_repr.specs.Laws.Widths.{low_within}
use Rattle.enumset_sets.proofs.numbers.u128_conversions.EnumSet+T.from_u128.Goals as goal
use Rattle.enumset_sets.specs.Laws.Conversions.{low_part_within}

pub exact-requires : goal.exact-requires
exact-requires g c = rw c.from_u128.ensures (low_part_within _ _ _ c.requires.valid)

pub returns : goal.returns
returns g c = c.exact.ensures.members ∙ c.from_u128.ensures ∙ low_within _ _ (is_subset_trans _ _ _ c.requires.valid c.exact.ensures.within)
