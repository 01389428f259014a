use Rattle.std.proofs.Common.{◌==◌, ◌*◌}
use Rattle.enumset_commands.proofs.Parts.{NoneBelow}
use Rattle.enumset_commands.proofs.grammar.parts.index_of.Given as goal

-- none of the bytes so far is wanted
abbrev pub invariant-loop-k : goal.invariant-loop-k
invariant-loop-k l = NoneBelow (λ b. b == l.wanted) l.text (16 * l.k)

abbrev pub invariant-loop-i : goal.invariant-loop-i
invariant-loop-i l = NoneBelow (λ b. b == l.wanted) l.text l.i
