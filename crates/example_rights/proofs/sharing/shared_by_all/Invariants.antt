use Rattle.std.proofs.Common.{◌≡◌, drop}
use Rattle.enumset.specs.Sets.{valid_bits, intersection_all}
use Rattle.example_rights.proofs.sharing.shared_by_all.Given as goal

-- the rights shared so far that the remaining grants have too are the rights that all grants share
abbrev pub invariant-loop-granted : goal.invariant-loop-granted
invariant-loop-granted g l =
    intersection_all l.shared (drop l.granted-index l.grants) ≡ intersection_all (valid_bits g.T.EnumSetType.elements) l.grants
