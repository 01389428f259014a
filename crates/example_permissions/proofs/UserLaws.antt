-- The users of members by name, one member after another.
use Rattle.std.proofs.Common.{◌≡◌, ℕ, cond, List, [], ◌∷◌, Ok, String, BTreeMap, Some, ap, ◌∙◌}
use Rattle.std.specs.Cmp.Lexicographic.{nat_list_eq_equiv}
use Rattle.std.specs.BTreeMap.{get_by_text}
use Rattle.std.specs.Map.{update}
use Rattle.std.specs.Str.{bytes_eq}
use Rattle.std.specs.declared.alloc.Global.{Global}
use Rattle.serde_json.specs.Data.{Data}
use Rattle.example_permissions.specs.declared.policy.User.{User}
use Rattle.example_permissions.specs.Answers.{AreUsers}
use Rattle.example_permissions.specs.Reading.{user_in, users_in}

-- the map has the users so far, and with the users of the remaining members they are all users
pub record UsersSoFar (left all : List (List ℕ × Data)) (by_name : BTreeMap (String Global) User) : Type 0 where
  pub seen : List (List ℕ × User)
  pub read : users_in seen left ≡ users_in [] all
  pub kept : AreUsers seen by_name

-- one more member, whose user was put into the map
pub users_more : {left all : List (List ℕ × Data)} {by_name : BTreeMap (String Global) User} (so_far : UsersSoFar left all by_name) (member : List ℕ × Data) (next : List (List ℕ × Data)) (user : User) (new : BTreeMap (String Global) User)
    → left ≡ member ∷ next → user_in member ≡ Ok user → ((q : List ℕ) → get_by_text new q ≡ update bytes_eq (get_by_text by_name) member.0 (Some user) q) → UsersSoFar next all new
users_more {left} {all} {by_name} so_far member next user new cut is put = record {
  seen = (member.0, user) ∷ so_far.seen;
  read = rw (cut, is) at so_far.read;
  kept = λ q. put q ∙ ap (λ b. cond b (Some user) (get_by_text by_name q)) (nat_list_eq_equiv.symm member.0 q) ∙ ap (cond (bytes_eq q member.0) (Some user)) (so_far.kept q);
}
