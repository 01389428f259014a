use Rattle.std.proofs.Common.{◌≡◌, ◌∙◌, fold, arith}
use Rattle.std.proofs.lemmas.Grind.{common_steps}
use Rattle.enumset.specs.Sets.{empty, union}
use Rattle.example_set_facts.proofs.FoldedSets.{sets_folded}
use Rattle.example_set_facts.proofs.changes.all_added.Goals as goal

pub returns : goal.returns
returns c =
    let folded : c.fold.result ≡ fold (λ all change. union all change.added) empty c.args.changes.now = grind (arith, common_steps) in
    folded ∙ sets_folded (λ change. change.added) c.args.changes.now
