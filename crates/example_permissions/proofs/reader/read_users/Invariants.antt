use Rattle.enumset.specs.JsonNames.{members_in}
use Rattle.serde_json.specs.View.{members_view}
use Rattle.example_permissions.proofs.UserLaws.{UsersSoFar}
use Rattle.example_permissions.proofs.reader.read_users.Given as goal

abbrev pub invariant-loop-name : goal.invariant-loop-name
invariant-loop-name l = UsersSoFar (members_in (members_view l.name-iterator)) (members_in (members_view l.members.entries)) l.users
