use Rattle.std.proofs.Common.{◌⊎◌, List, ℕ, length, length-append, subst, refl, arith, ap}
use Rattle.enumset.proofs.JsonScans.{some_if}
use Rattle.enumset.proofs.PlainTexts.{Closes, Next, WordsLeft, next, no_next, closes_here, goes_on_here, next_or_end, passed_less, plain_words, word_or_end, words_some, word_found, no_word_found}
use Rattle.enumset.proofs.PlainWords.{kept_if, no_words, goes_on_from, goes_on, ends}
use Rattle.enumset.proofs.set_json.plain_words.read_plain_words.Goals as goal
use Rattle.enumset.specs.JsonPlain.{Passed}

-- what follows the opening bracket
abbrev AfterBracket : List ℕ → Type 0
AfterBracket rest = Closes 93 rest ⊎ WordsLeft rest

pub returns-in_err-left-clause-plain : goal.returns-in_err-left-clause-plain
returns-in_err-left-clause-plain g c = λ plain. absurd (no_next AfterBracket 91 c.args.text.now _ c.as_bytes.ensures.value (plain_words c.args.text.now plain) (λ after passed. c.in_err-left.ensures.found after refl passed))

pub returns-in-Some : goal.returns-in-Some
returns-in-Some g c =
    let left = c.in_ok-left.left.now in
    let end = c.in-Some.end.now in
    record {
      words = kept_if _ c.then_some.result _ _ c.then_some.ensures (λ all. no_words c.args.text.now g.R.EnumSetTypeRepr.WIDTH left end (g.R.EnumSetTypeRepr.members c.new-words.result.repr) c.new-words.result.is_whole
          (subst (λ text. Passed text 91 left) c.as_bytes.ensures.value c.in_ok-left.ensures.passed) c.in-Some.ensures.passed (c.are_spaces.ensures.0 all) c.new-words.ensures.none c.new-words.ensures.whole);
      plain = λ plain.
          let more = next AfterBracket 91 c.args.text.now _ left c.as_bytes.ensures.value (plain_words c.args.text.now plain) (λ after. c.in_ok-left.ensures.found after refl) in
          some_if c.then_some.result _ _ c.then_some.ensures (c.are_spaces.ensures.1 (closes_here WordsLeft 93 left end refl (word_or_end left end) more c.in-Some.ensures.passed));
    }

pub loop-place-init : goal.loop-place-init
loop-place-init g c =
    let left = c.in_ok-left.left.now in
    let passed = subst (λ text. Passed text 91 left) c.as_bytes.ensures.value c.in_ok-left.ensures.passed in (
      goes_on_from c.args.text.now g.R.EnumSetTypeRepr.WIDTH left (g.R.EnumSetTypeRepr.members c.new-words.result.repr) c.new-words.result.is_whole passed c.new-words.ensures.none c.new-words.ensures.whole,
      omega (arith, passed_less c.args.text.now 91 left passed),
      λ plain.
          let more = next AfterBracket 91 c.args.text.now _ left c.as_bytes.ensures.value (plain_words c.args.text.now plain) (λ after. c.in_ok-left.ensures.found after refl) in
          goes_on_here WordsLeft 93 left more (λ after passed. c.in_default.ensures.found after refl passed),
    )

pub returns-in_err-word-clause-plain : goal.returns-in_err-word-clause-plain
returns-in_err-word-clause-plain g c = λ plain.
    absurd (no_word_found c.loop-place.left.now c.split_spaces.result.0.now c.split_spaces.result.1.now (c.loop-place.invariant.2 plain) c.split_spaces.ensures.spaces c.split_spaces.ensures.most c.split_spaces.ensures.whole c.in_err-word.ensures.found)

pub returns-in_err-left-2-clause-plain : goal.returns-in_err-left-2-clause-plain
returns-in_err-left-2-clause-plain g c = λ plain.
    let rest = c.in_ok-word.rest.now in
    let more = word_found c.loop-place.left.now c.split_spaces.result.0.now c.split_spaces.result.1.now (c.loop-place.invariant.2 plain) c.split_spaces.ensures.spaces c.split_spaces.ensures.most c.split_spaces.ensures.whole c.in_ok-word.word rest c.in_ok-word.ensures.found in
    let comma = goes_on_here (Next 44 WordsLeft) 93 rest more (λ after passed. c.in_default-after_byte.ensures.found after refl passed) in
    absurd (no_next WordsLeft 44 rest rest refl comma (λ after passed. c.in_err-left-2.ensures.found after refl passed))

pub loop-place-preserved : goal.loop-place-preserved
loop-place-preserved g c =
    let left = c.loop-place.left.now in
    let rest = c.in_ok-word.rest.now in
    let later = c.in_ok-left-2.left.now in (
      goes_on c.args.text.now g.R.EnumSetTypeRepr.WIDTH left c.split_spaces.result.0.now c.split_spaces.result.1.now rest c.loop-place.place g.R.EnumSetTypeRepr.PREFERRED_ARRAY_LEN c.in_ok-word.word
          _ _ c.loop-place.words.is_whole _ c.loop-place.invariant.0 c.split_spaces.ensures.spaces c.split_spaces.ensures.whole
          g.met.R.EnumSetTypeRepr.represents.word_count c.in_ok-word.ensures.below c.in_ok-word.ensures.whole c.take.ensures.put c.take.ensures.whole later c.in_ok-left-2.ensures.passed,
      omega (arith, c.loop-place.invariant.1, ap length c.split_spaces.ensures.whole, length-append c.split_spaces.result.0.now c.split_spaces.result.1.now, ap length c.in_ok-word.ensures.whole, length-append {A = ℕ}, passed_less rest 44 later c.in_ok-left-2.ensures.passed),
      λ plain.
          let more = word_found left c.split_spaces.result.0.now c.split_spaces.result.1.now (c.loop-place.invariant.2 plain) c.split_spaces.ensures.spaces c.split_spaces.ensures.most c.split_spaces.ensures.whole c.in_ok-word.word rest c.in_ok-word.ensures.found in
          let comma = goes_on_here (Next 44 WordsLeft) 93 rest more (λ after passed. c.in_default-after_byte.ensures.found after refl passed) in
          next WordsLeft 44 rest rest later refl comma (λ after. c.in_ok-left-2.ensures.found after refl),
    )

pub returns-in-Some-after_byte : goal.returns-in-Some-after_byte
returns-in-Some-after_byte g c =
    let rest = c.in_ok-word.rest.now in
    let end = c.in-Some-after_byte.end.now in
    record {
      words = kept_if _ c.then_some-in-Some-after_byte.result _ _ c.then_some-in-Some-after_byte.ensures (λ all. ends c.args.text.now g.R.EnumSetTypeRepr.WIDTH c.loop-place.left.now c.split_spaces.result.0.now c.split_spaces.result.1.now rest c.loop-place.place g.R.EnumSetTypeRepr.PREFERRED_ARRAY_LEN c.in_ok-word.word
          _ _ c.loop-place.words.is_whole _ c.loop-place.invariant.0 c.split_spaces.ensures.spaces c.split_spaces.ensures.whole
          g.met.R.EnumSetTypeRepr.represents.word_count c.in_ok-word.ensures.below c.in_ok-word.ensures.whole c.take.ensures.put c.take.ensures.whole
          end c.in-Some-after_byte.ensures.passed (c.are_spaces-in-Some-after_byte.ensures.0 all));
      plain = λ plain.
          let more = word_found c.loop-place.left.now c.split_spaces.result.0.now c.split_spaces.result.1.now (c.loop-place.invariant.2 plain) c.split_spaces.ensures.spaces c.split_spaces.ensures.most c.split_spaces.ensures.whole c.in_ok-word.word rest c.in_ok-word.ensures.found in
          some_if c.then_some-in-Some-after_byte.result _ _ c.then_some-in-Some-after_byte.ensures (c.are_spaces-in-Some-after_byte.ensures.1 (closes_here (Next 44 WordsLeft) 93 rest end refl (next_or_end WordsLeft 44 93 rest end refl refl refl) more c.in-Some-after_byte.ensures.passed));
    }

pub returns-clause-plain : goal.returns-clause-plain
returns-clause-plain g c = λ plain. absurd (omega (arith, c.loop-place.invariant.1, words_some c.loop-place.left.now (c.loop-place.invariant.2 plain)))
