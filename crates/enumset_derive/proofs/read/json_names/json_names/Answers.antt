use Rattle.std.proofs.Common.{rules, ◌≡◌, ◌+◌, ◌<◌, [], ◌∷◌, ◌++◌, length, take, get_or, string_bytes}
use Rattle.std.proofs.lemmas.List.{take_more}
use Rattle.enumset_derive.specs.JsonNames.{IsJsonName}
use Rattle.enumset_derive.proofs.JsonNames.{one_more}
use Rattle.enumset_derive.proofs.read.json_names.json_names.Goals as goal

pub loop-i-preserved : goal.loop-i-preserved
loop-i-preserved c =
    let vs = c.args.variants.now in
    let i = c.loop-i.i in
    let v = c.index-variants-i.result in
    let name = c.in_ok-json_name.field-0 in
    let within : i < length vs = search rules in
    let is : v ≡ get_or vs i v = c.index-variants-i.is in
    let one : take (i + 1) vs ≡ take i vs ++ v ∷ [] = rw is (take_more vs i v within) in
    let own : IsJsonName c.args.style v (string_bytes name) = search rules in
    let items : c.push.new.self.items ≡ c.loop-i.names.items ++ name ∷ [] = search rules in
    rw (one, items) (one_more c.args.style (take i vs) c.loop-i.names.items v name c.loop-i.invariant own)
