use Rattle.std.proofs.Common.{sym}
use Rattle.enumset_repr.specs.Laws.Members.{contains_below}
use Rattle.enumset_machine.proofs.mixed_commands.is_bit_allowed.Goals as goal

pub returns : goal.returns
returns g c = rw c.WIDTH.ensures (sym (contains_below g.T.Repr.EnumSetTypeRepr.WIDTH c.args.bit))
