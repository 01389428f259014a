-- What grants and denials allow a user.
--     role_bit, right_bit      the bits of a role and of a right
--     gives      whether a grant gives a right to a role of a set
--     is_granted      whether a right is granted to a role of a set
--     is_allowed      whether a right is granted to a role that the user has, and not denied
--     IsAllowed      each right that is asked for is allowed
use Rattle.std.specs.Prelude.{◌≡◌, ℕ, Bool, true, not, ◌&&◌, List}
use Rattle.std.specs.List.{list_any}
use Rattle.enumset.specs.Sets.{BitSet, contains, in_place}
use Rattle.example_permissions.specs.contracts.roles.Role as the_role
use Rattle.example_permissions.specs.contracts.rights.Right as the_right
use Rattle.example_permissions.specs.declared.roles.Role.{Role}
use Rattle.example_permissions.specs.declared.rights.Right.{Right}
use Rattle.example_permissions.specs.declared.policy.Grant.{Grant}
use Rattle.example_permissions.specs.declared.policy.User.{User}

abbrev pub role_bit : Role → ℕ
role_bit role = (in_place the_role.the_type).bit role

abbrev pub right_bit : Right → ℕ
right_bit right = (in_place the_right.the_type).bit right

abbrev pub gives : BitSet → ℕ → Grant → Bool
gives roles right grant = contains roles (role_bit grant.role) && contains grant.rights right

abbrev pub is_granted : List Grant → BitSet → ℕ → Bool
is_granted grants roles right = list_any (gives roles right) grants

abbrev pub is_allowed : List Grant → User → ℕ → Bool
is_allowed grants user right = is_granted grants user.roles right && not (contains user.denied right)

abbrev pub IsAllowed : List Grant → User → BitSet → Type 0
IsAllowed grants user asked = (right : ℕ) → contains asked right ≡ true → is_allowed grants user right ≡ true
