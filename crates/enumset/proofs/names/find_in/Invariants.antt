use Rattle.std.proofs.Common.{◌≡◌, map, drop}
use Rattle.enumset.specs.Names.{bit_named}
use Rattle.enumset.proofs.names.find_in.Given as goal

-- the names that are left give the same result as all names
abbrev pub invariant-loop-place : goal.invariant-loop-place
invariant-loop-place g l =
    bit_named (map (λ n. (g.T.EnumSetType.elements.bit n.0, n.1.now)) (drop l.place l.names)) l.wanted
    ≡ bit_named (map (λ n. (g.T.EnumSetType.elements.bit n.0, n.1.now)) l.names) l.wanted
