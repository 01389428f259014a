use Rattle.enumset_repr.specs.Laws.Members.{member_below}
use Rattle.enumset_sets.proofs.enum_set.EnumSet+T.bit_index.Goals as goal

pub returns-clause-valid : goal.returns-clause-valid
returns-clause-valid g c =
    rw (c.enum_into_u32.ensures, ← g.met.T.EnumSetType.lawful.valid) (g.met.T.EnumSetType.lawful.bit_is_valid c.args.t)

pub returns-clause-within : goal.returns-clause-within
returns-clause-within g c = member_below _ _ _ c.learn_valid_bits.ensures.within (returns-clause-valid g c)
