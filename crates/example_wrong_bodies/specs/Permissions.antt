-- Permissions in clauses.
--     permission      the bit of a permission
use Rattle.std.specs.Prelude.{ℕ}
use Rattle.enumset.specs.Sets.{in_place}
use Rattle.example_wrong_bodies.specs.contracts.permissions.Permission.{the_type}
use Rattle.example_wrong_bodies.specs.declared.permissions.Permission.{Permission}

abbrev pub permission : Permission → ℕ
permission p = (in_place the_type).bit p
