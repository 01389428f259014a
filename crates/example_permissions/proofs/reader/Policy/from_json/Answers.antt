use Rattle.std.proofs.Common.{◌≡◌, Some, map, refl, arith}
use Rattle.serde_json.specs.Read.{read}
use Rattle.serde_json.specs.View.{view}
use Rattle.example_permissions.specs.Answers.{grant_seen}
use Rattle.example_permissions.specs.Reading.{Contents}
use Rattle.example_permissions.proofs.reader.Policy.from_json.Goals as goal

pub returns-clause-policy : goal.returns-clause-policy
returns-clause-policy c =
    let value : read c.args.text.now ≡ Some (view c.in_ok-policy.policy) = grind arith in
    let (users, is, kept) = c.in_ok-users.ensures.users in
    let contents : Contents = record { grants = map grant_seen c.in_ok-grants.grants.items; users = users } in (
      contents,
      rw (value, c.in_ok-object_in.ensures.object, c.in_ok-grants.ensures.grants, c.in_ok-object_in-2.ensures.object, is) refl,
      record { grants = refl; users = kept },
    )
