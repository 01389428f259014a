use Rattle.std.proofs.Common.{option_map, ap, sym, ◌∙◌}
use Rattle.serde_json.proofs.Views.{view-Object}
use Rattle.serde_json.specs.View.{view, members_view}
use Rattle.tests_of_enumset.proofs.Changed.{flags_found, object_changed}
use Rattle.tests_of_enumset.proofs.config.insert_flag.Goals as goal

pub returns-clause-changed : goal.returns-clause-changed
returns-clause-changed g c =
    let found = ap (option_map (λ v. view v.now)) c.in_ok-list.ensures.ok_part in
    let object = ap (option_map (λ m. members_view m.now.entries)) c.in_ok-members.ensures.ok_part in (
      c.in_ok-flags.flags,
      flags_found _ (view c.args.config.now) (view c.in_ok-list.list.now) _ _ c.get.ensures found c.in_ok-flags.ensures.read,
      view-Object _ ∙ object_changed _ _ _ _ _ _ _ (sym object ∙ c.as_object_mut.ensures.value) c.in_ok-put.ensures.ok c.in_ok-list-2.ensures.value c.insert.ensures.inserted,
    )
