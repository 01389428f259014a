use Rattle.std.proofs.Common.{◌≡◌, map}
use Rattle.enumset.specs.JsonNames.{members_in}
use Rattle.serde_json.specs.View.{members_view}
use Rattle.example_permissions.specs.Answers.{grant_seen}
use Rattle.example_permissions.specs.Reading.{grants_in}
use Rattle.example_permissions.proofs.ReadingLaws.{after}
use Rattle.example_permissions.proofs.reader.read_grants.Given as goal

-- the grants so far, and then the grants of the remaining members, are all
abbrev pub invariant-loop-name : goal.invariant-loop-name
invariant-loop-name l =
    after (map grant_seen l.grants.items) (grants_in (members_in (members_view l.name-iterator))) ≡ grants_in (members_in (members_view l.roles.entries))
