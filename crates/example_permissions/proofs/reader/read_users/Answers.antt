use Rattle.std.proofs.Common.{◌≡◌, Ok, Some, ap, string_bytes, arith, rules}
use Rattle.std.proofs.lemmas.Map.Text.{btree_map_updates_text}
use Rattle.serde_json.specs.View.{view, members_view}
use Rattle.enumset.specs.JsonNames.{members_in}
use Rattle.example_permissions.specs.Reading.{user_in}
use Rattle.example_permissions.specs.declared.policy.User.{User}
use Rattle.example_permissions.proofs.UserLaws.{users_more}
use Rattle.example_permissions.proofs.reader.read_users.Goals as goal

pub loop-name-preserved : goal.loop-name-preserved
loop-name-preserved c =
    let user : User = record { roles = c.in_ok-read_list.field-0; denied = c.in_ok-read_list-2.field-0 } in
    let is : user_in (string_bytes c.in-Some.name.now, view c.in-Some.member.now) ≡ Ok user = grind arith in
    let key : string_bytes c.in_ok-clone.field-0 ≡ string_bytes c.in-Some.name.now = grind arith in
    let put = btree_map_updates_text (string_bytes c.in_ok-clone.field-0) c.loop-name.users c.insert.new.self (Some user) (first_of (search rules, grind arith)) in
    users_more c.loop-name.invariant (string_bytes c.in-Some.name.now, view c.in-Some.member.now) (members_in (members_view c.next.new.self)) user c.insert.new.self
    (ap (λ es. members_in (members_view es)) c.in-Some.ensures.steps) is (rw key at put)
