use Rattle.std.proofs.Common.{sym, ap, ◌∙◌}
use Rattle.enumset_repr.specs.Laws.Ends.{gives_last}
use Rattle.enumset_array.proofs.traversal.step.Goals as goal
use Rattle.enumset_array.specs.Items.{items_of}
use Rattle.enumset_array.specs.Walks.{answer}

pub returns-in-Back-clause-item : goal.returns-in-Back-clause-item
returns-in-Back-clause-item g c =
    (gives_last _ _ _ c.step_back.ensures.item).0 ∙ ap (λ e. answer e (items_of (g.R.Row.words c.args.row.now))) (sym c.in-Back.is)
