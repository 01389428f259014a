use Rattle.std.proofs.Common.{nat_eq, not, sym, ap, ◌∙◌}
use Rattle.std.specs.Cmp.Lexicographic.{pointwise}
use Rattle.enumset_array.proofs.ChangedWords.{changes_none, none_changes, same_before}
use Rattle.enumset_array.proofs.lanes.change_words.Goals as goal

pub returns-in-None : goal.returns-in-None
returns-in-None g c =
    let same = none_changes g.O.SetOperation.of_words _ _ c.requires (sym c.in-None.ensures.none) in
    record {
      words = same;
      changed = ap not (c.in-None.ensures.none ∙ changes_none _ _ _ c.requires ∙ ap (pointwise nat_eq c.args.words.now) (sym same));
    }

pub returns-in-Some-eq0-clause-changed : goal.returns-in-Some-eq0-clause-changed
returns-in-Some-eq0-clause-changed g c = ap not (c.in-Some-eq0.ensures.none ∙ changes_none _ _ _ c.requires ∙ ap (pointwise nat_eq c.args.words.now) (sym c.apply_to_words.ensures))

pub apply_from-requires-clause-same : goal.apply_from-requires-clause-same
apply_from-requires-clause-same g c = same_before _ _ _ c.in-Some.place c.requires c.in-Some.ensures.place.0 c.in-Some.ensures.place.1

pub returns-in-Some-clause-changed : goal.returns-in-Some-clause-changed
returns-in-Some-clause-changed g c = ap not (c.in-Some.ensures.none ∙ changes_none _ _ _ c.requires ∙ ap (pointwise nat_eq c.args.words.now) (sym c.apply_from.ensures))
