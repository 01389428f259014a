use Rattle.std.proofs.Common.{◌≡◌, ◌+◌, ◌-◌, ◌*◌, ◌/◌, ℕ, length, subst, arith}
use Rattle.enumset_array.proofs.WordLanes.{PartMade, all_made, made_before, block_made}
use Rattle.enumset_array.proofs.lanes.apply_from.Goals as goal

pub loop-k-init : goal.loop-k-init
loop-k-init g c = made_before _ _ _ _ c.args.place (omega arith) c.requires.same

pub loop-k-preserved : goal.loop-k-preserved
loop-k-preserved g c =
    let i : ℕ = 16 * c.loop-k.k in
    rw c.apply_by_four.ensures (block_made _ _ _ _ i (i + 16 - i) (i + 16 - i) (16 * (c.loop-k.k + 1)) c.requires.length (omega arith) (omega arith) (omega arith) c.loop-k.invariant)

pub returns : goal.returns
returns g c =
    let end : ℕ = length c.args.words.now in
    let i : ℕ = length c.loop-k.words / 16 * 16 in
    let here : 16 * c.loop-k.k ≡ i = omega arith in
    let before = subst (λ j. PartMade g.O.SetOperation.of_words c.args.words.now c.args.others.now j c.loop-k.words) here c.loop-k.invariant in
    rw c.apply_by_four-2.ensures (all_made _ _ _ _ end c.requires.length (omega arith) (block_made _ _ _ _ i (length c.loop-k.words - i) (length c.args.others.now - i) end c.requires.length (omega arith) (omega arith) (omega arith) before))
