use Rattle.std.proofs.Common.{◌≡◌, true, rules, arith}
use Rattle.std.proofs.lemmas.Bool.Decides.{nat_tests}
use Rattle.enumset_repr.specs.BitSet.{contains, below}
use Rattle.enumset_repr.specs.Laws.Members.{contains_below}
use Rattle.enumset_machine.proofs.mixed_commands.MixedEnumSetCommands.carry_out.Goals as goal
use Rattle.enumset_machine.specs.MixedRuns.{mixed_plan}

pub insert_bit-was_absent-requires : goal.insert_bit-was_absent-requires
unfolding mixed_plan
insert_bit-was_absent-requires g c =
    let allowed : contains (below g.T.Repr.EnumSetTypeRepr.WIDTH) c.in-InsertBit.bit ≡ true = search rules in
    grind (arith, nat_tests, contains_below, allowed)
