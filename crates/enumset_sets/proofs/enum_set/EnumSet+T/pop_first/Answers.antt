use Rattle.std.proofs.Common.{Some, sym, ap, ◌∙◌, rules}
use Rattle.enumset_repr.specs.Laws.Ends.{least_below}
use Rattle.enumset_sets.proofs.EndMembers.{least_taken, no_least}
use Rattle.enumset_sets.proofs.enum_set.EnumSet+T.pop_first.Goals as goal

pub remove_bit-requires : goal.remove_bit-requires
remove_bit-requires g c = least_below _ g.T.Repr.EnumSetTypeRepr.WIDTH _ (g.met.T.Repr.EnumSetTypeRepr.represents.within _ c.self.invariant.is_value) (sym c.in_ok-bit.ensures)

pub returns : goal.returns
returns g c = rw (← c.self.view_is) (let taken = least_taken _ _ _ _ c.remove_bit.ensures.members c.enum_from_u32.ensures c.in_ok-bit.ensures in record { first = taken.0; least = ap Some c.enum_from_u32.ensures ∙ c.in_ok-bit.ensures; removed = search rules; put_back = taken.1; fewer = taken.2; none = search rules })

pub returns-in_err-bit : goal.returns-in_err-bit
returns-in_err-bit g c = rw (c.from_residual.ensures, ← c.self.view_is) (let none = no_least _ c.in_err-bit.ensures in record { first = (none.0, none.0); least = c.in_err-bit.ensures; removed = search rules; put_back = search rules; fewer = search rules; none = (none.1, none.1) })
