use Rattle.enumset_repr.specs.BitSet.{ascending}
use Rattle.enumset_repr.specs.Laws.Ascending.{ascending_ascends}
use Rattle.enumset.proofs.laws.ends.both_ends.Goals as goal
use Rattle.enumset.specs.Laws.BothEnds.{both_ends, both_ends_whole, ended_answer, none_twice}

pub returns : goal.returns
returns c = record {
  so_far = λ s. both_ends (ascending s);
  whole = λ s. both_ends_whole (ascending s);
  ended = λ s. ended_answer (ascending s);
  once = λ s ends. none_twice (ascending s) ends (ascending_ascends s);
}
