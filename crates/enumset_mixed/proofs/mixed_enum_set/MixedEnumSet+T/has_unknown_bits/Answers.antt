use Rattle.std.proofs.Common.{ap, not, ◌∙◌}
use Rattle.std.proofs.lemmas.Bool.Decides.{same_from_decides}
use Rattle.enumset_repr.specs.Laws.Ascending.{is_empty_iff}
use Rattle.enumset_repr.specs.Laws.Members.{is_subset_iff}
use Rattle.enumset_mixed.proofs.mixed_enum_set.MixedEnumSet+T.has_unknown_bits.Goals as goal

pub returns-clause-unknown : goal.returns-clause-unknown
returns-clause-unknown g c =
    let known = rw (c.self.view_is, c.valid_repr.ensures.members) at c.is_subset_of.ensures in
    ap not (known ∙ same_from_decides _ _ (is_subset_iff _ _) (is_empty_iff _))
