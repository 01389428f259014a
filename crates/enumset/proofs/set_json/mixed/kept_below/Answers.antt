use Rattle.std.proofs.Common.{◌≡◌, true, Ok, sym, ap, ◌∙◌}
use Rattle.enumset_repr.specs.BitSet.{is_subset, below}
use Rattle.enumset_repr.specs.Laws.Widths.{low_within}
use Rattle.enumset.proofs.set_json.mixed.kept_below.Goals.{in_default-via-in-Refuse+else-not-is_whole, in_default-via-in_default}
use Rattle.enumset.proofs.set_json.mixed.kept_below.Goals as goal

pub returns-in_default : goal.returns-in_default
returns-in_default g c bits cut whole =
    elim c.in_default.branch [
      | in_default-via-in-Refuse+else-not-is_whole w ↦
          let within : is_subset bits (below g.T.Repr.EnumSetTypeRepr.WIDTH) ≡ true = sym whole ∙ w.if-not-is_whole.false in
          rw (w.in-Refuse.is, within) (ap Ok (c.from_repr.ensures ∙ cut ∙ low_within _ _ within))
      | in_default-via-in_default w ↦ rw w.in_default.is (ap Ok (c.from_repr.ensures ∙ cut))
    ]
