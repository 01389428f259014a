use Rattle.std.proofs.Common.{ap, ◌∙◌}
use Rattle.enumset_repr.specs.Laws.Widths.{low_within, is_subset_wider}
use Rattle.enumset_repr.specs.Number.{number}
use Rattle.enumset.proofs.set_json.mixed.mixed_number_of.Goals as goal

pub returns : goal.returns
returns g c =
    c.to_u64.ensures
    ∙ ap number (low_within _ 64 (is_subset_wider _ g.T.Repr.EnumSetTypeRepr.WIDTH 64 c.requires (g.met.T.Repr.EnumSetTypeRepr.represents.within _ c.learn_is_value.ensures)) ∙ c.as_repr-repr.ensures)
