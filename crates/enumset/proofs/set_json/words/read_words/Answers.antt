use Rattle.std.proofs.Common.{◌≡◌, ◌+◌, None, Some, Err, option_map, map, refl, sym, ap, ◌∙◌, arith, rules, is_none, if◌then◌else◌}
use Rattle.std.proofs.lemmas.List.{drop_all}
use Rattle.std.specs.List.{position_from}
use Rattle.serde_json.specs.View.{view, items_view}
use Rattle.enumset.proofs.JsonWords.{other_from, other_at, word_here, words_read, length-held_words, begun, taken, all_read}
use Rattle.enumset.proofs.set_json.words.read_words.Goals as goal
use Rattle.enumset.specs.Json.{is_no_word, held_words, words_in}
use Rattle.enumset.specs.declared.set_json.fault.JsonFault.TheVariants.{NotAWord}

pub loop-place-init : goal.loop-place-init
loop-place-init g c =
    let held = held_words (map view c.deref-item-items.result.now) in (
      refl,
      begun held g.R.EnumSetTypeRepr.WIDTH (g.R.EnumSetTypeRepr.members c.new-words.result.repr) c.new-words.result.is_whole c.new-words.ensures.none c.new-words.ensures.whole,
    )

pub returns-in_err-word-clause-fault : goal.returns-in_err-word-clause-fault
returns-in_err-word-clause-fault g c =
    let vs = c.deref-item-items.result.now in
    let place = c.loop-place.place in
    let here = other_at vs place c.item-item.result c.as_u64.result c.loop-place-test.true c.item-item.is c.as_u64.ensures in
    let whole : words_in (view c.args.value.now) ≡ Err (NotAWord place) =
    words_read _ vs (Some place) (sym c.as_array.ensures ∙ ap (option_map (λ v. items_view v.now.items)) c.in_ok-items.ensures.ok_part ∙ ap (λ us. Some (items_view us)) (sym c.deref-item-items.ensures.value)) (sym c.loop-place.invariant.0 ∙ here ∙ ap (λ o. if is_none o then Some place else other_from vs (place + 1)) c.in_err-word.ensures.ok_part) in
    search rules

pub loop-place-preserved : goal.loop-place-preserved
loop-place-preserved g c =
    let vs = c.deref-item-items.result.now in
    let place = c.loop-place.place in
    let here = other_at vs place c.item-item.result c.as_u64.result c.loop-place-test.true c.item-item.is c.as_u64.ensures in
    let is = word_here vs place c.item-item.result c.as_u64.result c.loop-place-test.true c.item-item.is c.as_u64.ensures c.in_ok-word.word c.in_ok-word.ensures.ok_part in (
      sym (here ∙ ap (λ o. if is_none o then Some place else other_from vs (place + 1)) c.in_ok-word.ensures.ok_part) ∙ c.loop-place.invariant.0,
      taken _ place _ _ _ c.loop-place.invariant.1 g.R.EnumSetTypeRepr.PREFERRED_ARRAY_LEN c.in_ok-word.word _ _ g.met.R.EnumSetTypeRepr.represents.word_count is (omega arith) c.take.ensures.put c.take.ensures.whole,
    )

pub returns-clause-read : goal.returns-clause-read
returns-clause-read g c =
    let vs = c.deref-item-items.result.now in
    let place = c.loop-place.place in
    let all = all_read _ place _ _ _ c.loop-place.invariant.1 (omega (arith, length-held_words vs, c.loop-place-test.false)) in (
      held_words (map view vs),
      words_read _ vs None (sym c.as_array.ensures ∙ ap (option_map (λ v. items_view v.now.items)) c.in_ok-items.ensures.ok_part ∙ ap (λ us. Some (items_view us)) (sym c.deref-item-items.ensures.value)) (sym c.loop-place.invariant.0 ∙ ap (λ us. position_from is_no_word place (map view us)) (drop_all place vs c.loop-place-test.false)),
      all.0,
      all.1,
    )
