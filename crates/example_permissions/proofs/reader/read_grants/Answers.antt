use Rattle.std.proofs.Common.{◌≡◌, ◌++◌, ◌∷◌, [], Ok, map, sym, ap, ◌∙◌, string_bytes, arith}
use Rattle.serde_json.specs.View.{view, members_view}
use Rattle.example_permissions.specs.Answers.{grant_seen}
use Rattle.enumset.specs.JsonNames.{members_in}
use Rattle.example_permissions.specs.Policy.{role_bit}
use Rattle.example_permissions.specs.Reading.{grant_in, grants_in}
use Rattle.example_permissions.proofs.ReadingLaws.{after, after_more, seen_more}
use Rattle.example_permissions.proofs.reader.read_grants.Goals as goal

pub loop-name-preserved : goal.loop-name-preserved
loop-name-preserved c =
    let done = map grant_seen c.loop-name.grants.items in
    let next = members_in (members_view c.next.new.self) in
    let is : grant_in (string_bytes c.in-Some.name.now, view c.in-Some.rights.now) ≡ Ok (role_bit c.in-Some-of_name.role, c.in_ok-rights.rights) = grind arith in
    let items : map grant_seen c.add_grant.new.grants.items ≡ done ++ (role_bit c.in-Some-of_name.role, c.in_ok-rights.rights) ∷ [] = ap (map grant_seen) c.in_ok-add_grant.ensures.granted ∙ seen_more c.loop-name.grants.items _ in
    ap (λ grants. after grants (grants_in next)) items
    ∙ sym (after_more done (string_bytes c.in-Some.name.now, view c.in-Some.rights.now) next (role_bit c.in-Some-of_name.role, c.in_ok-rights.rights) is)
    ∙ sym (ap (λ es. after done (grants_in (members_in (members_view es)))) c.in-Some.ensures.steps) ∙ c.loop-name.invariant
