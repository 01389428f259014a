use Rattle.std.proofs.Common.{Some, ap, ◌∙◌}
use Rattle.serde_json.specs.View.{view}
use Rattle.tests_of_enumset.proofs.Changed.{shallow}
use Rattle.tests_of_enumset.proofs.config.with_flag_in_list.Goals as goal

pub returns-clause-changed : goal.returns-clause-changed
returns-clause-changed g c =
    let config = view c.in_ok-config.config in
    let (flags, were, are) = c.in_ok-insert_flag.ensures.changed in
    let reads = c.in_ok-to_string_pretty.ensures.reads_back (shallow _ _ config _ are c.in_ok-config.ensures.nests) in
    (config, flags, c.in_ok-config.ensures.ok, were, reads ∙ ap Some are)
