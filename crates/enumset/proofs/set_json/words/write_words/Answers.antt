use Rattle.std.proofs.Common.{◌≡◌, ◌++◌, [], ◌∷◌, map, sym, ap, ◌∙◌, arith}
use Rattle.std.proofs.lemmas.List.{map-append}
use Rattle.serde_json.specs.Data.{array}
use Rattle.serde_json.specs.View.{view, items_of}
use Rattle.enumset_repr.specs.Laws.WordLists.{words_none, words_more}
use Rattle.enumset_repr.specs.Words.{word, words}
use Rattle.enumset.proofs.set_json.words.write_words.Goals as goal
use Rattle.enumset.specs.Json.{number_value}

pub loop-i-init : goal.loop-i-init
loop-i-init g c = ap (map view) c.in_ok-all.ensures.items ∙ sym (ap (map number_value) (words_none (g.R.EnumSetTypeRepr.members c.args.repr.now)))

pub loop-i-preserved : goal.loop-i-preserved
loop-i-preserved g c =
    ap (map view) c.in_ok-push.ensures.items ∙ map-append view c.loop-i.all.items (c.from.result ∷ [])
    ∙ (λ j. c.loop-i.invariant j ++ (c.from.ensures ∙ ap number_value c.word.ensures) j ∷ [])
    ∙ sym (map-append number_value (words (g.R.EnumSetTypeRepr.members c.args.repr.now) c.loop-i.i) (word (g.R.EnumSetTypeRepr.members c.args.repr.now) c.loop-i.i ∷ []))
    ∙ sym (ap (map number_value) (words_more (g.R.EnumSetTypeRepr.members c.args.repr.now) c.loop-i.i))

pub returns-clause-value : goal.returns-clause-value
returns-clause-value g c =
    let all : c.loop-i.i ≡ g.R.EnumSetTypeRepr.PREFERRED_ARRAY_LEN = omega (arith, c.loop-i-test.false, c.PREFERRED_ARRAY_LEN-i-end.ensures, c.loop-i.auto.i-end) in
    c.from-2.ensures
    ∙ ap (λ ds. array (items_of ds)) (c.loop-i.invariant ∙ (λ j. map number_value (words (g.R.EnumSetTypeRepr.members c.args.repr.now) (all j))))
