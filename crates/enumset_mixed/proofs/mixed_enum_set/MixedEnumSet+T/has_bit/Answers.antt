use Rattle.std.proofs.Common.{sym, ◌∙◌, arith, le-ltb}
use Rattle.enumset_repr.specs.Laws.Members.{contains_past}
use Rattle.enumset_mixed.proofs.mixed_enum_set.MixedEnumSet+T.has_bit.Goals as goal

pub returns-else-value-WIDTH-clause-has : goal.returns-else-value-WIDTH-clause-has
returns-else-value-WIDTH-clause-has g c =
    le-ltb _ _ c.if-value-WIDTH.false
    ∙ sym (rw (← c.self.view_is) (contains_past _ _ _ (g.met.T.Repr.EnumSetTypeRepr.represents.within _ c.self.invariant.is_value) (omega (arith, c.if-value-WIDTH.false, c.WIDTH.ensures))))
