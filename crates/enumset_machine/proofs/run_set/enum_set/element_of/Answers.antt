use Rattle.std.proofs.Common.{sym, ◌∙◌}
use Rattle.enumset_sets.specs.Laws.Elements.{is_valid_bit}
use Rattle.enumset_machine.proofs.run_set.enum_set.element_of.Goals as goal

pub enum_from_u32-requires : goal.enum_from_u32-requires
enum_from_u32-requires g c = sym (is_valid_bit _ _) ∙ c.requires
