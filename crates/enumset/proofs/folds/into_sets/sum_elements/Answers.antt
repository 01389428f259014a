use Rattle.std.proofs.Common.{true≢false, sym, subst, Result, Ok, Err, IsOk, MatchResult}
use Rattle.std.specs.Iterator.{Drains}
use Rattle.enumset_sets.specs.Laws.Folds.{all_of_extended}
use Rattle.enumset.proofs.folds.into_sets.sum_elements.Goals as goal

-- what is known of each `Ok` is known of a result that is `Ok`
of_ok : {T E P : Type 0} (Q : E → Type 0) (r : Result T E) → MatchResult r (λ _. P) Q → IsOk r → P
of_ok Q (Ok v) told ok = told
of_ok Q (Err e) told ok = absurd (true≢false (sym ok))

pub returns : goal.returns
returns g c =
    let told = c.extend.ensures.ran in
    let drained = of_ok _ _ told.4 c.extend.ensures.total in
    (told.1, subst (λ s. Drains g.I.Iterator.next_gives s told.1) told.2 drained, all_of_extended _ _ _ c.new-all.ensures told.3)
