use Rattle.std.proofs.Common.{◌≡◌, ◌∙◌, fold, arith}
use Rattle.std.proofs.lemmas.Grind.{common_steps}
use Rattle.enumset.specs.Sets.{empty, only, union}
use Rattle.example_set_facts.proofs.FoldedSets.{elements_folded}
use Rattle.example_set_facts.proofs.slices.folded.Goals as goal

pub returns : goal.returns
returns g c =
    let bit = g.T.EnumSetType.elements.bit in
    let folded : c.fold.result ≡ fold (λ all t. union all (only (bit t))) empty c.args.elements.now = grind (arith, common_steps) in
    folded ∙ elements_folded bit c.args.elements.now
