use Rattle.std.proofs.Common.{ℕ, ◌+◌, ◌*◌, ◌≤◌, length, w64, refl, sym, ◌∙◌, subst, arith}
use Rattle.std.proofs.lemmas.Simd.{length-chunk}
use Rattle.std.specs.Int.{bit_not}
use Rattle.std.specs.Simd.Lanes.{chunk, put_chunk}
use Rattle.enumset_array.proofs.WordLanes.{PartMade, all_made, one_made, lanes_made, map_zipped}
use Rattle.enumset_array.proofs.lanes.invert.Goals as goal

pub loop-k-init : goal.loop-k-init
loop-k-init c = refl

pub loop-k-preserved : goal.loop-k-preserved
loop-k-preserved c =
    let i : ℕ = 4 * c.loop-k.k in
    let long : i + 4 ≤ length c.loop-k.words = omega arith in
    let same = map_zipped (bit_not w64) (chunk i 4 c.loop-k.words) (chunk i 4 c.args.words.now) (length-chunk i 4 _ long ∙ sym (length-chunk i 4 c.args.words.now (omega arith))) in
    subst (λ lanes. PartMade (λ w _. bit_not w64 w) c.args.words.now c.args.words.now (4 * (c.loop-k.k + 1)) (put_chunk i c.loop-k.words lanes)) (sym same) (lanes_made (λ w _. bit_not w64 w) c.args.words.now c.args.words.now c.loop-k.words i 4 (4 * (c.loop-k.k + 1)) refl (omega arith) (omega arith) c.loop-k.invariant)

pub loop-i-preserved : goal.loop-i-preserved
loop-i-preserved c = one_made (λ w _. bit_not w64 w) c.args.words.now c.args.words.now c.loop-i.words c.loop-i.i refl (omega arith) c.loop-i.invariant

pub returns : goal.returns
returns c =
    all_made (λ w _. bit_not w64 w) c.args.words.now c.args.words.now c.loop-i.words c.loop-i.i refl (omega arith) c.loop-i.invariant
    ∙ sym (map_zipped (bit_not w64) c.args.words.now c.args.words.now refl)
