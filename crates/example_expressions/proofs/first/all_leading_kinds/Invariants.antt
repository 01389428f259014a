use Rattle.std.proofs.Common.{◌≡◌, map, fold}
use Rattle.enumset.specs.FixedPoints.{union_over}
use Rattle.enumset.specs.Sets.{union}
use Rattle.example_expressions.specs.First.{leading_kinds_of}
use Rattle.example_expressions.proofs.first.all_leading_kinds.Given as goal

abbrev pub invariant-loop-part : goal.invariant-loop-part
invariant-loop-part l = fold union l.kinds (map leading_kinds_of l.part-iterator.items) ≡ union_over leading_kinds_of l.parts
