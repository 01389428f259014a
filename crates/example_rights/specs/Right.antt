-- Rights in clauses.
--     bit      the bit of a right
use Rattle.std.specs.Prelude.{ℕ}
use Rattle.enumset.specs.Sets.{in_place}
use Rattle.example_rights.specs.contracts.rights.Right.{the_type}
use Rattle.example_rights.specs.declared.rights.Right.{Right}

abbrev pub bit : Right → ℕ
bit right = (in_place the_type).bit right
