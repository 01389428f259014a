use Rattle.std.proofs.Common.{◌+◌, ◌-◌, ◌*◌, ◌==◌, ℕ, length, sym, ap, ◌∙◌, arith}
use Rattle.enumset_array.proofs.HighestApart.{block_lower}
use Rattle.enumset_array.proofs.lanes.equal_from.Goals as goal

pub loop-k-preserved : goal.loop-k-preserved
loop-k-preserved c =
    let i : ℕ = length c.args.words.now - 16 * (c.loop-k.k + 1) in
    block_lower c.args.words.now c.args.others.now i (i + 16 - i) (length c.args.words.now - 16 * c.loop-k.k) (omega arith) c.requires (omega arith)
    (sym c.any_of.ensures ∙ ap (λ any. any == 0) c.if-any_of-ne0.false) c.loop-k.invariant
