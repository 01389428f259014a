use Rattle.enumset_repr.specs.Laws.Numbers.{bits_full}
use Rattle.enumset.specs.Laws.Bits.{bits_in_order}
use Rattle.enumset.proofs.laws.elements.bits_below.Goals as goal

pub returns : goal.returns
returns c = record {
  number = bits_full _;
  list = bits_in_order _;
}
