use Rattle.std.proofs.Common.{sym, ap, length, ◌∙◌, arith}
use Rattle.enumset_repr.specs.Laws.Algebra.{is_subset_trans}
use Rattle.enumset_repr.specs.Laws.Ascending.{len_ascending}
use Rattle.enumset_repr.specs.Laws.Members.{is_subset_contains}
use Rattle.enumset_sets.proofs.laws.members_are_valid.Goals as goal
use Rattle.enumset_sets.specs.Laws.Elements.{is_valid_bit}

pub returns : goal.returns
returns g c = let over = c.iter-members.ensures in record {
  valid = over.valid;
  listed = λ bit one. sym (is_valid_bit g.T.EnumSetType.elements bit) ∙ is_subset_contains _ _ over.valid bit one;
  within = is_subset_trans _ _ _ over.valid c.learn_members.ensures.within;
  count = omega (arith, len_ascending c.args.set.now, ap length over.ascending, over.fits);
}
