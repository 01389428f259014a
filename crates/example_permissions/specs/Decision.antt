-- Decisions on requests.
--     missing_of      the rights that a decision says are missing
use Rattle.enumset.specs.Sets.{BitSet, empty}
use Rattle.example_permissions.specs.declared.decision.Decision.{Decision}
use Rattle.example_permissions.specs.declared.decision.Decision.TheVariants.{Allowed, Denied}

abbrev pub missing_of : Decision → BitSet
missing_of Allowed = empty
missing_of (Denied missing) = missing
