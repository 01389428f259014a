-- What a reader returns of a policy and of a request.
--     grant_seen      the bit of a grant's role, and its rights
--     user_of      the user of a name
--     AreUsers, AreUsersRead      a map has these users by name;  a map has the users that were read
--     IsPolicyOf      a policy has these grants, in their order, and these users
--     IsPolicyRead      a policy is what was read
--     IsDecision      the decision for a user who asks for rights: exactly those that are not allowed are missing
--     IsAnswer      a decision if there is a request, and none if there is not
--     IsAnswerTo      the answer of a policy to the request that was read
use Rattle.std.specs.Prelude.{◌≡◌, ◌↔◌, ℕ, ◌&&◌, not, List, map, Option, Some, None, Result, Ok, String, ⊤}
use Rattle.std.specs.BTreeMap.{BTreeMap, get_by_text}
use Rattle.std.specs.declared.alloc.Global.{Global}
use Rattle.std.specs.Map.{lookup}
use Rattle.std.specs.Str.{bytes_eq}
use Rattle.enumset.specs.Sets.{BitSet, contains}
use Rattle.example_permissions.specs.declared.policy.Grant.{Grant}
use Rattle.example_permissions.specs.declared.policy.User.{User}
use Rattle.example_permissions.specs.declared.reader.Policy.{Policy}
use Rattle.example_permissions.specs.declared.decision.Decision.{Decision}
use Rattle.example_permissions.specs.declared.decision.Decision.TheVariants.{Allowed}
use Rattle.example_permissions.specs.Decision.{missing_of}
use Rattle.example_permissions.specs.Policy.{role_bit, is_allowed, IsAllowed}
use Rattle.example_permissions.specs.Reading.{Trouble, Contents}

abbrev pub grant_seen : Grant → ℕ × BitSet
grant_seen grant = (role_bit grant.role, grant.rights)

abbrev pub user_of : Policy → List ℕ → Option User
user_of policy name = get_by_text policy.users name

abbrev pub AreUsers : List (List ℕ × User) → BTreeMap (String Global) User → Type 0
AreUsers users by_name = (name : List ℕ) → get_by_text by_name name ≡ lookup (bytes_eq name) users

abbrev pub AreUsersRead : Result (List (List ℕ × User)) Trouble → BTreeMap (String Global) User → Type 0
AreUsersRead read by_name = (users : List (List ℕ × User)) × (read ≡ Ok users) × AreUsers users by_name

pub record IsPolicyOf (contents : Contents) (policy : Policy) : Type 0 where
  pub grants : map grant_seen policy.grants.items ≡ contents.grants
  pub users : AreUsers contents.users policy.users

abbrev pub IsPolicyRead : Option (Result Contents Trouble) → Policy → Type 0
IsPolicyRead read policy = (contents : Contents) × (read ≡ Some (Ok contents)) × IsPolicyOf contents policy

pub record IsDecision (grants : List Grant) (user : User) (asked : BitSet) (decision : Decision) : Type 0 where
  pub allowed : (decision ≡ Allowed) ↔ IsAllowed grants user asked
  pub missing : (right : ℕ) → contains (missing_of decision) right ≡ (contains asked right && not (is_allowed grants user right))

abbrev pub IsAnswer : List Grant → Option (User × BitSet) → Option Decision → Type 0
IsAnswer grants None None = ⊤
IsAnswer grants (Some (user, asked)) (Some decision) = IsDecision grants user asked decision
IsAnswer grants request answer = ⊥

abbrev pub IsAnswerTo : Policy → Result (Option (User × BitSet)) Trouble → Option Decision → Type 0
IsAnswerTo policy read answer = (request : Option (User × BitSet)) × (read ≡ Ok request) × IsAnswer policy.grants.items request answer
