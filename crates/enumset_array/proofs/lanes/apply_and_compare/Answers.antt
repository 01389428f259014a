use Rattle.std.proofs.Common.{◌≡◌, ◌+◌, ◌*◌, ◌/◌, length, refl, ap, subst, not, arith}
use Rattle.enumset_array.proofs.WordLanes.{PartMade, all_made, one_made, lanes_made, lanes_ended}
use Rattle.enumset_array.proofs.ChangedWords.{lanes_changed, one_changed, all_changed}
use Rattle.enumset_array.proofs.lanes.apply_and_compare.Goals as goal

pub loop-k-init : goal.loop-k-init
loop-k-init g c = record { made = refl; none = refl }

pub loop-k-preserved : goal.loop-k-preserved
loop-k-preserved g c = record {
  made = rw c.on_lanes-lanes.ensures (lanes_made _ _ _ _ (4 * c.loop-k.k) 4 (4 * (c.loop-k.k + 1)) c.requires (omega arith) (omega arith) c.loop-k.invariant.made);
  none = rw c.on_lanes-lanes.ensures (lanes_changed _ _ _ c.requires _ _ (4 * c.loop-k.k) (4 * (c.loop-k.k + 1)) (omega arith) (omega arith) c.loop-k.auto.changed.0 c.loop-k.invariant.made c.loop-k.invariant.none);
}

pub loop-i-init : goal.loop-i-init
loop-i-init g c =
    let done : 4 * c.loop-k.k ≡ length c.loop-k.words / 4 * 4 = omega arith in
    record {
      made = subst (λ i. PartMade g.O.SetOperation.of_words c.args.words.now c.args.others.now i c.loop-k.words) done c.loop-k.invariant.made;
      none = lanes_ended _ c.loop-k.changed _ _ c.loop-k.invariant.none done;
    }

pub loop-i-preserved : goal.loop-i-preserved
loop-i-preserved g c = record {
  made = rw c.on_words-word.ensures (one_made _ _ _ _ c.loop-i.i c.requires (omega arith) c.loop-i.invariant.made);
  none = rw c.on_words-word.ensures (one_changed _ _ _ c.requires _ _ c.loop-i.i (omega arith) c.loop-i.invariant.made c.loop-i.invariant.none);
}

pub returns : goal.returns
returns g c = record {
  words = all_made _ _ _ _ c.loop-i.i c.requires (omega arith) c.loop-i.invariant.made;
  changed = ap not (all_changed _ _ _ c.requires _ _ c.loop-i.i (omega arith) c.loop-i.invariant.made c.loop-i.invariant.none);
}
