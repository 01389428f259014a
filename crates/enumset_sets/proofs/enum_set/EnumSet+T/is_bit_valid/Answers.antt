use Rattle.std.proofs.Common.{sym, ◌∙◌, arith, le-ltb}
use Rattle.enumset_repr.specs.Laws.Members.{contains_past}
use Rattle.enumset_sets.proofs.enum_set.EnumSet+T.is_bit_valid.Goals as goal
use Rattle.enumset_sets.specs.Laws.Elements.{is_valid_bit}

pub returns-else-bit-WIDTH-clause-valid : goal.returns-else-bit-WIDTH-clause-valid
returns-else-bit-WIDTH-clause-valid g c =
    le-ltb _ _ c.if-bit-WIDTH.false
    ∙ sym (contains_past _ _ _ c.valid_repr-all.ensures.within (omega (arith, c.if-bit-WIDTH.false, c.WIDTH.ensures)))

pub returns-else-bit-WIDTH-clause-of_a_variant : goal.returns-else-bit-WIDTH-clause-of_a_variant
returns-else-bit-WIDTH-clause-of_a_variant g c =
    returns-else-bit-WIDTH-clause-valid g c ∙ is_valid_bit _ _

pub returns-then-bit-WIDTH-clause-of_a_variant : goal.returns-then-bit-WIDTH-clause-of_a_variant
returns-then-bit-WIDTH-clause-of_a_variant g c =
    rw (c.has_bit.ensures, c.valid_repr-all.ensures.members) (is_valid_bit _ _)
