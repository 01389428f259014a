use Rattle.std.proofs.Common.{◌≡◌, map, drop}
use Rattle.enumset.specs.Names.{name_of}
use Rattle.enumset.proofs.names.EnumSetNames.name.Given as goal

-- the names that are left give the same result as all names
abbrev pub invariant-loop-value : goal.invariant-loop-value
invariant-loop-value g l =
    name_of (map (λ n. (g.Self.EnumSetType.elements.bit n.0, n.1.now)) (drop l.value-index l.names)) l.bit
    ≡ name_of (map (λ n. (g.Self.EnumSetType.elements.bit n.0, n.1.now)) l.names) l.bit
