use Rattle.std.proofs.Common.{Some, sym, ap, ◌∙◌, rules}
use Rattle.enumset_repr.specs.Laws.Ends.{greatest_below}
use Rattle.enumset_sets.proofs.EndMembers.{greatest_taken, no_greatest}
use Rattle.enumset_sets.proofs.enum_set.EnumSet+T.pop_last.Goals as goal

pub remove_bit-requires : goal.remove_bit-requires
remove_bit-requires g c = greatest_below _ g.T.Repr.EnumSetTypeRepr.WIDTH _ (g.met.T.Repr.EnumSetTypeRepr.represents.within _ c.self.invariant.is_value) (sym c.in_ok-bit.ensures)

pub returns : goal.returns
returns g c = rw (← c.self.view_is) (let taken = greatest_taken _ _ _ _ c.remove_bit.ensures.members c.enum_from_u32.ensures c.in_ok-bit.ensures in record { last = taken.0; greatest = ap Some c.enum_from_u32.ensures ∙ c.in_ok-bit.ensures; removed = search rules; put_back = taken.1; fewer = taken.2; none = search rules })

pub returns-in_err-bit : goal.returns-in_err-bit
returns-in_err-bit g c = rw (c.from_residual.ensures, ← c.self.view_is) (let none = no_greatest _ c.in_err-bit.ensures in record { last = (none.0, none.0); greatest = c.in_err-bit.ensures; removed = search rules; put_back = search rules; fewer = search rules; none = (none.1, none.1) })
