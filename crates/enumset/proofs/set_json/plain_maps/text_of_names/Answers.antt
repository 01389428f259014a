use Rattle.std.proofs.Common.{ℕ, List, Bor, rules, ap, map, get_or, ◌++◌, [], ◌∙◌}
use Rattle.std.proofs.Math.ListN.{drop_of_length-le}
use Rattle.std.proofs.lemmas.List.{drop_more}
use Rattle.enumset.proofs.JsonLists.{begins, next_name, ended}
use Rattle.enumset.proofs.MapsWritten.{map_written}
use Rattle.enumset.proofs.set_json.plain_maps.text_of_names.Goals as goal

pub loop-name-init : goal.loop-name-init
loop-name-init c = begins _ c.in_ok-text.ensures.bytes

pub loop-name-preserved : goal.loop-name-preserved
loop-name-preserved c =
    let names = c.args.names.now in
    let i = c.loop-name.name-index in
    let name : Bor (List ℕ) = get_or names i (record { ref_ptr = (0, 0); now = [] }) in
    next_name _ name.now _ _ _ (ap (map (λ n. n.now)) (drop_more names i _ c.loop-name-test.true)) (search rules)
    (c.in_ok-push_str.ensures.bytes ∙ ap (λ t. t ++ name.now) c.in_ok-push_either.ensures) c.loop-name.invariant

pub returns : goal.returns
returns c =
    let names = c.args.names.now in
    let (is, plain) = ended _ _ _ (ap (map (λ n. n.now)) (drop_of_length-le names c.loop-name-test.false)) c.in_ok-push_either-2.ensures c.loop-name.invariant in
    λ all set are. map_written all set names _ are is plain
