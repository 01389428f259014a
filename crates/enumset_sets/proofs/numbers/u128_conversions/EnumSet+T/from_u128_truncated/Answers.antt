use Rattle.std.proofs.Common.{◌∙◌}
use Rattle.enumset_repr.specs.Laws.Algebra.{intersection_right}
use Rattle.enumset_sets.specs.Elements.{valid_bits}
use Rattle.enumset_sets.specs.Laws.Conversions.{bits_masked}
use Rattle.enumset_sets.proofs.numbers.u128_conversions.EnumSet+T.from_u128_truncated.Goals as goal

pub from_u128-requires : goal.from_u128-requires
from_u128-requires g c =
    record { valid = rw (c.as_u128_truncated.ensures, c.all.ensures, bits_masked c.args.value (valid_bits g.T.EnumSetType.elements) 128 c.ranges.value.fits) (intersection_right _ _) }

pub returns : goal.returns
returns g c = c.from_u128.ensures ∙ rw (c.as_u128_truncated.ensures, c.all.ensures) (bits_masked c.args.value (valid_bits g.T.EnumSetType.elements) 128 c.ranges.value.fits)
