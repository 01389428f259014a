use Rattle.std.proofs.Common.{refl, ap, ◌∙◌}
use Rattle.enumset_repr.specs.Laws.Widths.{low_within}
use Rattle.enumset_repr.specs.Laws.WordLists.{number_word}
use Rattle.enumset_repr.specs.Number.{number}
use Rattle.enumset_repr.proofs.repr.EnumSetTypeRepr.try_to_u64.Goals as goal

pub returns-clause-value : goal.returns-clause-value
returns-clause-value g c =
    number_word _ _ (c.in_ok-try_to_u64_slice.ensures.words refl) ∙ ap number (low_within _ 64 (c.in_ok-try_to_u64_slice.ensures.fits.0 refl))
