use Rattle.std.proofs.Common.{◌≡◌, ◌++◌, map, refl, sym, ap, ◌∙◌, append_assoc, append-nil, true, codes}
use Rattle.std.proofs.lemmas.Grind.{put_three}
use Rattle.enumset.specs.Names.{name_of}
use Rattle.example_permissions.specs.Reading.{right_names}
use Rattle.example_permissions.specs.Texts.{joined, separator, decision_text}
use Rattle.example_permissions.proofs.decision.DecisionDisplay.fmt.Goals as goal

pub loop-right-init : goal.loop-right-init
loop-right-init g c = (codes "denied: ", c.in_ok-write_str.ensures.writes, refl)

pub loop-right-preserved : goal.loop-right-preserved
loop-right-preserved g c =
    let (text, wrote, whole) = c.loop-right.invariant in
    let rest = rw c.in-Some.ensures.steps.0 at whole in (
      text ++ (separator c.loop-right.is_first ++ c.name.result.now),
      λ plain ok.
          let before = wrote plain ok in
          let between = c.in_ok-write_separator.ensures before.plain ok in
          let after = c.in_ok-write_str-2.ensures.writes between.plain ok in
          put_three g.W.Write.write_str_gives _ _ _ _ text (separator c.loop-right.is_first) c.name.result.now _ before between after refl,
      simp (append_assoc, c.name.ensures) rest,
    )

pub returns-clause-writes : goal.returns-clause-writes
returns-clause-writes g c =
    let (text, wrote, whole) = c.loop-right.invariant in
    let end : text ≡ codes "denied: " ++ joined true (map (name_of right_names) c.into_iter-right-iterator.result.items) = rw (c.in-None.ensures.steps.0.0, append-nil) at whole in
    let all : text ≡ decision_text c.args.self.now = end
    ∙ ap (λ items. codes "denied: " ++ joined true (map (name_of right_names) items)) c.into_iter-right-iterator.ensures.into_iter_gives.0.items
    ∙ ap decision_text (sym c.in-Denied.is) in
    λ plain ok. rw all at (wrote plain ok)
