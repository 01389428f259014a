use Rattle.std.proofs.Common.{◌≡◌, ◌-◌, ◌∙◌, suc, drop, sym, subst, arith}
use Rattle.enumset_array.proofs.HighestApart.{all_equal, decides_order}
use Rattle.enumset_array.proofs.order.compare_words.Goals as goal

pub returns-then-words-end : goal.returns-then-words-end
returns-then-words-end c =
    let next : suc (c.loop-end.end - 1) ≡ c.loop-end.end = omega arith in
    c.cmp.ensures
    ∙ sym (decides_order c.args.words.now c.args.others.now (c.loop-end.end - 1) c.requires (omega arith) c.if-words-end.true (subst (λ n. drop n c.args.words.now ≡ drop n c.args.others.now) (sym next) c.loop-end.invariant.1))

pub returns : goal.returns
returns c = all_equal c.args.words.now c.args.others.now c.loop-end.end (omega arith) c.loop-end.invariant.1
