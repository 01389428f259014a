use Rattle.std.proofs.Common.{◌+◌, ◌*◌, ◌==◌, sym, ap, ◌∙◌, arith}
use Rattle.std.proofs.lemmas.Bool.Decides.{nat_tests}
use Rattle.enumset_array.proofs.WordLanes.{next_block, some_block, last_words}
use Rattle.enumset_array.proofs.lanes.first_result.Goals as goal

pub returns-then-any_of-ne0 : goal.returns-then-any_of-ne0
returns-then-any_of-ne0 g c = record {
  none = some_block _ _ _ (16 * c.loop-k.k) _ _ c.any_of.ensures c.if-any_of-ne0.true;
  place = (omega arith, c.loop-k.invariant);
}

pub loop-k-preserved : goal.loop-k-preserved
loop-k-preserved g c = next_block _ _ _ (16 * c.loop-k.k) _ _ c.any_of.ensures (16 * (c.loop-k.k + 1)) (omega arith) c.loop-k.invariant c.if-any_of-ne0.false

pub returns-then-any_of-eq0-clause-none : goal.returns-then-any_of-eq0-clause-none
returns-then-any_of-eq0-clause-none g c =
    ap (λ any. any == 0) (sym c.if-any_of-eq0.true) ∙ (last_words g.O.SetOperation.of_words _ _ _ c.loop-k.k _ c.requires (omega arith) (omega arith) c.any_of-2.ensures c.loop-k.invariant).1

pub returns : goal.returns
returns g c =
    let tests = last_words g.O.SetOperation.of_words _ _ _ c.loop-k.k _ c.requires (omega arith) (omega arith) c.any_of-2.ensures c.loop-k.invariant in
    record {
      none = grind (arith, nat_tests, tests.1, c.if-any_of-eq0.false);
      place = (omega arith, tests.0);
    }
