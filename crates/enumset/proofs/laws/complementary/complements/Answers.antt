use Rattle.enumset_repr.specs.Laws.Algebra.{complement_twice}
use Rattle.enumset_repr.specs.Laws.Sets.{complement_of_complement, complement_within}
use Rattle.enumset.proofs.laws.complementary.complements.Goals as goal

pub returns : goal.returns
returns c = record {
  twice = complement_twice;
  twice_of_any = complement_of_complement;
  of_greater = complement_within;
}
