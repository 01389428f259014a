use Rattle.std.proofs.Common.{ℕ, List, ◌≡◌, ◌+◌, Contains, length, is_some, if◌then◌else◌, None, Option, take, set, take_all, refl, sym, ap, ◌∙◌, subst, arith, ◌∷◌, ◌++◌, []}
use Rattle.std.proofs.lemmas.List.{get_or_past, take_more_set}
use Rattle.enumset_repr.specs.BitSet.{difference, from_list}
use Rattle.enumset_repr.specs.Words.{bits_of}
use Rattle.enumset_array.proofs.Walks.{length-items_among, length-items_among-push, difference-none, difference-step, none-push, answers_next, rest_next}
use Rattle.enumset_array.proofs.traversal.walk_into.Goals as goal
use Rattle.enumset_array.specs.Cursors.{Covers}
use Rattle.enumset_array.specs.Items.{items_of}
use Rattle.enumset_array.specs.Walks.{answers, without_answers, items_among}

covers_all : (ws : List ℕ) → Covers ws (record { front = 0; back = length ws })
covers_all ws = record { within = omega arith; before = λ i h. absurd (omega (arith, h)); past = λ i h. get_or_past ws i 0 h }

pub loop-i-init : goal.loop-i-init
unfolding answers without_answers items_among
loop-i-init g c = record {
  items = refl;
  rest = refl;
  set = difference-none _;
  asks = rw c.over-cursors.ensures (omega (arith, c.word_count.ensures.count));
  met = λ has. absurd (omega (arith, has.1));
  covers = rw (c.over-cursors.ensures, c.word_count.ensures.count) (covers_all _);
  same = refl;
}

pub loop-i-preserved : goal.loop-i-preserved
loop-i-preserved g c =
    let rs : List (Option ℕ) = take c.loop-i.i c.loop-i.answers in
    let vs : List (Option ℕ) = take (c.loop-i.i + 1) (set c.loop-i.answers c.loop-i.i c.step.result) in
    let pushed : vs ≡ rs ++ c.step.result ∷ [] = take_more_set c.loop-i.answers c.loop-i.i c.step.result (omega (arith, c.requires, c.loop-i.auto.answers)) in
    record {
      items = answers_next _ _ _ _ _ _ _ c.loop-i-test.true c.loop-i.invariant.items c.loop-i.invariant.rest c.step.ensures.item pushed;
      rest = rest_next _ _ _ _ _ c.loop-i-test.true c.loop-i.invariant.rest c.step.ensures.rest;
      set = difference-step _ _ _ _ _ c.loop-i.invariant.set c.step.ensures.words.set ∙ ap (λ (l : List (Option ℕ)). difference (bits_of (g.R.Row.words c.args.row.now)) (from_list (items_among l))) (sym pushed);
      asks = let e : length (items_among vs) ≡ length (items_among rs) + (if is_some c.step.result then 1 else 0) = ap (λ (l : List (Option ℕ)). length (items_among l)) pushed ∙ length-items_among-push _ _ in
          omega (arith, c.step.ensures.asks.sum, c.loop-i.invariant.asks);
      met = λ has. none-push _ _ _ _ c.loop-i.invariant.met (λ met. (c.step.ensures.asks.stays met).0) c.step.ensures.asks.met (subst (λ (l : List (Option ℕ)). Contains l None) pushed has);
      covers = c.step.ensures.covers;
      same = c.step.ensures.words.len ∙ c.loop-i.invariant.same;
    }

pub returns : goal.returns
returns g c =
    let rs : List (Option ℕ) = c.loop-i.answers in
    let all : take c.loop-i.i rs ≡ rs = take_all c.loop-i.i rs (omega (arith, c.requires, c.loop-i.auto.answers)) in
    let ends : take c.loop-i.i c.args.ends.now ≡ c.args.ends.now = take_all c.loop-i.i c.args.ends.now c.loop-i-test.false in
    let yields : rs ≡ answers (items_of (g.R.Row.words c.args.row.now)) c.args.ends.now = sym all ∙ c.loop-i.invariant.items ∙ ap (answers (items_of (g.R.Row.words c.args.row.now))) ends in
    let count : length (items_among (take c.loop-i.i rs)) ≡ length (items_among rs) = ap (λ (l : List (Option ℕ)). length (items_among l)) all in
    let few = length-items_among rs in
    record {
      walk = record {
        yields = yields;
        leaves = c.loop-i.invariant.rest ∙ ap (without_answers (items_of (g.R.Row.words c.args.row.now))) ends;
        steps = omega (arith, c.loop-i.invariant.asks, c.requires, c.loop-i.auto.answers);
        yielded = omega (arith, c.loop-i.invariant.asks);
      };
      all_asked = λ has. let met = c.loop-i.invariant.met (subst (λ (l : List (Option ℕ)). Contains l None) (sym all) has) in omega (arith, c.loop-i.invariant.asks);
      set = c.loop-i.invariant.set ∙ ap (λ (l : List (Option ℕ)). difference (bits_of (g.R.Row.words c.args.row.now)) (from_list (items_among l))) all;
      len = c.loop-i.invariant.same;
    }
