-- Policies and requests as texts, and their faults.
--     Trouble      what is wrong: an unknown name, a missing object, or a list of names that is not a set: whose list, and why
--     ◌>>=◌      the next step with what was read, unless something is wrong with it
--     words_of      the words of a text, which ASCII white space separates
--     role_names, right_names      the bits of the roles and of the rights, each with its name
--     object_in      the members of the object with this name in a value
--     set_read      a set, or which list is not a set, whose it is, and why
--     set_in      the set of a list of names; empty if there is no list
--     grant_in, grants_in      what a member grants, as the bit of the role and the rights;  what members grant
--     user_in, users_in      what a member says of a user;  the users of members by name, after those so far, the last one first
--     Contents      what a policy has: its grants, and its users by name
--     policy_in, policy_read      the contents of a JSON value;  of a JSON text, if it is one
--     rights_in, request_in      the rights of words, with those so far;  the user and the rights of a request, if it has words
--     IsFaultOf      the fault says what is wrong, or memory ran out
--     IsFaultOfText      the fault says what is wrong, or memory ran out, or the text is not JSON
use Rattle.std.specs.Prelude.{◌≡◌, ℕ, ◌==◌, not, List, [], ◌∷◌, length, filter, codes, Option, Some, None, option_map, option_and_then, ok_or, Result, Ok, Err, string_bytes}
use Rattle.std.specs.Char.{is_ascii_whitespace}
use Rattle.std.specs.List.{slice_split}
use Rattle.std.specs.IoError.{error_kind}
use Rattle.std.specs.declared.io.ErrorKind.TheVariants.{OutOfMemory}
use Rattle.enumset.specs.Sets.{BitSet, empty, insert, in_place}
use Rattle.enumset.specs.Names.{Names, names_of, bit_named}
use Rattle.enumset.specs.JsonNames.{members_in, set_of_list}
use Rattle.enumset.specs.declared.set_json.fault.JsonFault.{JsonFault}
use Rattle.enumset.specs.declared.set_json.unknown.Unknown.TheVariants.{Refuse}
use Rattle.serde_json.specs.Data.{Data}
use Rattle.serde_json.specs.Errors.{IsMemory}
use Rattle.serde_json.specs.Find.{as_object, get}
use Rattle.serde_json.specs.Read.{read}
use Rattle.example_permissions.specs.contracts.roles.Role as the_role
use Rattle.example_permissions.specs.contracts.rights.Right as the_right
use Rattle.example_permissions.specs.declared.policy.User.{User}
use Rattle.example_permissions.specs.declared.fault.Fault.{Fault}
use Rattle.example_permissions.specs.declared.fault.Fault.TheVariants as fault

pub data Trouble : Type 0 where
  no_object : List ℕ → Trouble
  no_role : List ℕ → Trouble
  no_user : List ℕ → Trouble
  no_right : List ℕ → Trouble
  no_set : List ℕ → List ℕ → JsonFault → Trouble

infixl 10 ◌>>=◌
abbrev pub ◌>>=◌ : {A B : Type 0} → Result A Trouble → (A → Result B Trouble) → Result B Trouble
(Ok read) >>= next = next read
(Err trouble) >>= next = Err trouble

abbrev pub words_of : List ℕ → List (List ℕ)
words_of text = filter (λ word. not (length word == 0)) (slice_split is_ascii_whitespace text)

abbrev pub role_names : Names
role_names = names_of (in_place the_role.the_type) (codes "Reader" ∷ codes "Editor" ∷ codes "Owner" ∷ [])

abbrev pub right_names : Names
right_names = names_of (in_place the_right.the_type) (codes "Read" ∷ codes "Write" ∷ codes "Share" ∷ codes "Delete" ∷ [])

-- ---- policies

abbrev pub object_in : List ℕ → Data → Result (List (List ℕ × Data)) Trouble
object_in name value = ok_or (option_map members_in (option_and_then as_object (get name value))) (no_object name)

abbrev pub set_read : List ℕ → List ℕ → Result BitSet JsonFault → Result BitSet Trouble
set_read list whose (Ok set) = Ok set
set_read list whose (Err fault) = Err (no_set list whose fault)

abbrev pub set_in : Names → List ℕ → List ℕ → Option Data → Result BitSet Trouble
set_in names list whose None = Ok empty
set_in names list whose (Some value) = set_read list whose (set_of_list names Refuse value)

abbrev pub grant_in : List ℕ × Data → Result (ℕ × BitSet) Trouble
grant_in (name, rights) = do
  role ← ok_or (bit_named role_names name) (no_role name)
  set ← set_in right_names (codes "grants") name (Some rights)
  Ok (role, set)

abbrev pub grants_in : List (List ℕ × Data) → Result (List (ℕ × BitSet)) Trouble
grants_in [] = Ok []
grants_in (member ∷ members) = do
  grant ← grant_in member
  grants ← grants_in members
  Ok (grant ∷ grants)

abbrev pub user_in : List ℕ × Data → Result User Trouble
user_in (name, member) = do
  roles ← set_in role_names (codes "roles") name (get (codes "roles") member)
  denied ← set_in right_names (codes "denials") name (get (codes "denied") member)
  Ok (record { roles = roles; denied = denied })

abbrev pub users_in : List (List ℕ × User) → List (List ℕ × Data) → Result (List (List ℕ × User)) Trouble
users_in users [] = Ok users
users_in users (member ∷ members) = do
  user ← user_in member
  users_in ((member.0, user) ∷ users) members

pub record Contents : Type 0 where
  pub grants : List (ℕ × BitSet)
  pub users : List (List ℕ × User)

abbrev pub policy_in : Data → Result Contents Trouble
policy_in value = do
  roles ← object_in (codes "grants") value
  grants ← grants_in roles
  members ← object_in (codes "users") value
  users ← users_in [] members
  Ok (record { grants = grants; users = users })

abbrev pub policy_read : List ℕ → Option (Result Contents Trouble)
policy_read text = option_map policy_in (read text)

-- ---- requests

abbrev pub rights_in : BitSet → List (List ℕ) → Result BitSet Trouble
rights_in asked [] = Ok asked
rights_in asked (word ∷ words) = do
  right ← ok_or (bit_named right_names word) (no_right word)
  rights_in (insert asked right) words

abbrev pub request_in : (List ℕ → Option User) → List (List ℕ) → Result (Option (User × BitSet)) Trouble
request_in users [] = Ok None
request_in users (name ∷ words) = do
  user ← ok_or (users name) (no_user name)
  asked ← rights_in empty words
  Ok (Some (user, asked))

-- ---- faults

abbrev pub IsFaultOfText : {A : Type 0} → Option (Result A Trouble) → Fault → Type 0
IsFaultOfText read (fault.Io error) = error_kind error ≡ OutOfMemory
IsFaultOfText read (fault.Json error) = ¬ IsMemory error → read ≡ None
IsFaultOfText read (fault.NoObject name) = read ≡ Some (Err (no_object name.now))
IsFaultOfText read (fault.NoRole name) = read ≡ Some (Err (no_role (string_bytes name)))
IsFaultOfText read (fault.NoUser name) = read ≡ Some (Err (no_user (string_bytes name)))
IsFaultOfText read (fault.NoRight name) = read ≡ Some (Err (no_right (string_bytes name)))
IsFaultOfText read (fault.List list whose fault) = read ≡ Some (Err (no_set list.now (string_bytes whose) fault))

abbrev pub IsFaultOf : {A : Type 0} → Result A Trouble → Fault → Type 0
IsFaultOf read fault = IsFaultOfText (Some read) fault
