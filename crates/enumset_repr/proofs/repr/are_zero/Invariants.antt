use Rattle.std.proofs.Common.{◌≡◌, ◌≤◌, ◌↔◌}
use Rattle.enumset_repr.specs.Words.{word}
use Rattle.enumset_repr.proofs.ZeroWords.{NoneIn}
use Rattle.enumset_repr.proofs.repr.are_zero.Given as goal

-- `any` combines the words before place i by `|`: it is 0 exactly if each of them is
abbrev pub invariant-loop-i : goal.invariant-loop-i
invariant-loop-i g l = (l.from ≤ l.i) × (l.i ≤ l.to) × ((l.any ≡ 0) ↔ NoneIn (word (g.R.EnumSetTypeRepr.members l.repr)) l.from l.i)
