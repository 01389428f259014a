use Rattle.std.proofs.Common.{◌⊎◌, List, ℕ, length, length-append, Ok, None, refl, sym, ap, subst, arith}
use Rattle.enumset_repr.specs.BitSet.{empty}
use Rattle.enumset.proofs.PlainLists.{GoesOn, is_read, none_named, goes_on_from, goes_on, ends, no_unknown}
use Rattle.enumset.proofs.JsonScans.{some_if}
use Rattle.enumset.proofs.PlainTexts.{Closes, Next, NamesLeft, next, no_next, closes_here, goes_on_here, next_or_end, passed_less, plain_list, names_some, name_found, no_name_found}
use Rattle.enumset.proofs.PlainWords.{kept_if}
use Rattle.enumset.proofs.set_json.plain_lists.read_plain_list.Goals as goal
use Rattle.enumset.specs.JsonNames.{set_of_list, unless_unknown}
use Rattle.enumset.specs.Names.{names_of}

-- what follows the opening bracket
abbrev AfterBracket : List ℕ → Type 0
AfterBracket rest = Closes 93 rest ⊎ Next 34 NamesLeft rest

pub returns-in_err-rest-clause-plain : goal.returns-in_err-rest-clause-plain
returns-in_err-rest-clause-plain g c = λ plain. absurd (no_next AfterBracket 91 c.args.text.now _ c.as_bytes.ensures.value (plain_list c.args.text.now plain) (λ after passed. c.in_err-rest.ensures.found after refl passed))

pub returns-in-Some : goal.returns-in-Some
returns-in-Some g c =
    let names = names_of g.T.EnumSetType.elements g.T.EnumSetNames.names in
    let rest = c.in_ok-rest.rest.now in
    let end = c.in-Some.end.now in
    record {
      set = kept_if _ c.then_some.result _ _ c.then_some.ensures (λ all. is_read (set_of_list names c.args.unknown) c.args.text.now (unless_unknown c.args.unknown None empty) (Ok c.new.result)
          (none_named names c.args.unknown c.args.text.now _ c.in_ok-rest.rest.now c.in-Some.end.now c.as_bytes.ensures.value c.in_ok-rest.ensures.passed c.in-Some.ensures.passed (c.are_spaces.ensures.0 all))
          (no_unknown c.args.unknown c.new.result empty c.new.ensures));
      plain = λ plain.
          let opened = next AfterBracket 91 c.args.text.now _ rest c.as_bytes.ensures.value (plain_list c.args.text.now plain) (λ after. c.in_ok-rest.ensures.found after refl) in
          some_if c.then_some.result _ _ c.then_some.ensures (c.are_spaces.ensures.1 (closes_here (Next 34 NamesLeft) 93 rest end refl (next_or_end NamesLeft 34 93 rest end refl refl refl) opened c.in-Some.ensures.passed));
    }

pub returns-in_err-left-clause-plain : goal.returns-in_err-left-clause-plain
returns-in_err-left-clause-plain g c = λ plain.
    let rest = c.in_ok-rest.rest.now in
    let opened = next AfterBracket 91 c.args.text.now _ rest c.as_bytes.ensures.value (plain_list c.args.text.now plain) (λ after. c.in_ok-rest.ensures.found after refl) in
    absurd (no_next NamesLeft 34 rest rest refl (goes_on_here (Next 34 NamesLeft) 93 rest opened (λ after passed. c.in_default.ensures.found after refl passed)) (λ after passed. c.in_err-left.ensures.found after refl passed))

pub loop-place-init : goal.loop-place-init
loop-place-init g c =
    let names = names_of g.T.EnumSetType.elements g.T.EnumSetNames.names in
    let rest = c.in_ok-rest.rest.now in (
      subst (λ s. GoesOn names c.args.unknown c.args.text.now c.in_ok-left.left.now 0 s c.new-names.result.first_unknown) (sym c.new-names.ensures.set)
          (subst (GoesOn names c.args.unknown c.args.text.now c.in_ok-left.left.now 0 empty) (sym c.new-names.ensures.first)
          (goes_on_from names c.args.unknown c.args.text.now _ c.in_ok-rest.rest.now c.in_ok-left.left.now c.as_bytes.ensures.value c.in_ok-rest.ensures.passed c.in_ok-left.ensures.passed)),
      omega (arith, ap length c.as_bytes.ensures.value, passed_less _ 91 rest c.in_ok-rest.ensures.passed, passed_less rest 34 c.in_ok-left.left.now c.in_ok-left.ensures.passed),
      λ plain.
          let opened = next AfterBracket 91 c.args.text.now _ rest c.as_bytes.ensures.value (plain_list c.args.text.now plain) (λ after. c.in_ok-rest.ensures.found after refl) in
          next NamesLeft 34 rest rest c.in_ok-left.left.now refl (goes_on_here (Next 34 NamesLeft) 93 rest opened (λ after passed. c.in_default.ensures.found after refl passed)) (λ after. c.in_ok-left.ensures.found after refl),
    )

pub returns-in_err-name-clause-plain : goal.returns-in_err-name-clause-plain
returns-in_err-name-clause-plain g c = λ plain. absurd (no_name_found c.loop-place.left.now (c.loop-place.invariant.2 plain) c.in_err-name.ensures.found)

pub returns-in_err-after_byte-clause-plain : goal.returns-in_err-after_byte-clause-plain
returns-in_err-after_byte-clause-plain g c = λ plain.
    let more = name_found c.loop-place.left.now (c.loop-place.invariant.2 plain) c.in_ok-name.name.now c.in_ok-name.rest.now c.in_ok-name.ensures.found in
    let comma = goes_on_here (Next 44 (Next 34 NamesLeft)) 93 c.in_ok-name.rest.now more (λ after passed. c.in_default-after_byte.ensures.found after refl passed) in
    absurd (no_next (Next 34 NamesLeft) 44 c.in_ok-name.rest.now c.in_ok-name.rest.now refl comma (λ after passed. c.in_err-after_byte.ensures.found after refl passed))

pub returns-in_err-left-2-clause-plain : goal.returns-in_err-left-2-clause-plain
returns-in_err-left-2-clause-plain g c = λ plain.
    let after = c.in_ok-after_byte.field-0.now in
    let more = name_found c.loop-place.left.now (c.loop-place.invariant.2 plain) c.in_ok-name.name.now c.in_ok-name.rest.now c.in_ok-name.ensures.found in
    let comma = goes_on_here (Next 44 (Next 34 NamesLeft)) 93 c.in_ok-name.rest.now more (λ after passed. c.in_default-after_byte.ensures.found after refl passed) in
    let quote = next (Next 34 NamesLeft) 44 c.in_ok-name.rest.now c.in_ok-name.rest.now after refl comma (λ l. c.in_ok-after_byte.ensures.found l refl) in
    absurd (no_next NamesLeft 34 after after refl quote (λ l passed. c.in_err-left-2.ensures.found l refl passed))

pub loop-place-preserved : goal.loop-place-preserved
loop-place-preserved g c =
    let old = c.loop-place.names in
    let new = c.take.new.self in
    let after = c.in_ok-after_byte.field-0.now in
    let later = c.in_ok-left-2.left.now in (
      goes_on (names_of g.T.EnumSetType.elements g.T.EnumSetNames.names) c.args.unknown c.args.text.now c.loop-place.left.now c.in_ok-name.name.now c.in_ok-name.rest.now c.loop-place.place
          old.set new.set old.first_unknown new.first_unknown c.loop-place.invariant.0 c.in_ok-name.ensures.plain c.in_ok-name.ensures.whole c.take.ensures.set c.take.ensures.first
          c.in_ok-after_byte.field-0.now c.in_ok-left-2.left.now c.in_ok-after_byte.ensures.passed c.in_ok-left-2.ensures.passed,
      omega (arith, c.loop-place.invariant.1, ap length c.in_ok-name.ensures.whole, length-append {A = ℕ}, passed_less c.in_ok-name.rest.now 44 after c.in_ok-after_byte.ensures.passed, passed_less after 34 later c.in_ok-left-2.ensures.passed),
      λ plain.
          let more = name_found c.loop-place.left.now (c.loop-place.invariant.2 plain) c.in_ok-name.name.now c.in_ok-name.rest.now c.in_ok-name.ensures.found in
          let comma = goes_on_here (Next 44 (Next 34 NamesLeft)) 93 c.in_ok-name.rest.now more (λ after passed. c.in_default-after_byte.ensures.found after refl passed) in
          let quote = next (Next 34 NamesLeft) 44 c.in_ok-name.rest.now c.in_ok-name.rest.now after refl comma (λ l. c.in_ok-after_byte.ensures.found l refl) in
          next NamesLeft 34 after after later refl quote (λ l. c.in_ok-left-2.ensures.found l refl),
    )

pub returns-in-Some-after_byte : goal.returns-in-Some-after_byte
returns-in-Some-after_byte g c =
    let names = names_of g.T.EnumSetType.elements g.T.EnumSetNames.names in
    let old = c.loop-place.names in
    let new = c.take.new.self in
    let rest = c.in_ok-name.rest.now in
    let end = c.in-Some-after_byte.end.now in
    record {
      set = kept_if _ c.then_some-in-Some-after_byte.result _ _ c.then_some-in-Some-after_byte.ensures (λ all. is_read (set_of_list names c.args.unknown) c.args.text.now (unless_unknown c.args.unknown new.first_unknown new.set) c.into_set.result
          (ends names c.args.unknown c.args.text.now c.loop-place.left.now c.in_ok-name.name.now c.in_ok-name.rest.now c.loop-place.place
          old.set new.set old.first_unknown new.first_unknown c.loop-place.invariant.0 c.in_ok-name.ensures.plain c.in_ok-name.ensures.whole c.take.ensures.set c.take.ensures.first
          c.in-Some-after_byte.end.now c.in-Some-after_byte.ensures.passed (c.are_spaces-in-Some-after_byte.ensures.0 all))
          c.into_set.ensures);
      plain = λ plain.
          let more = name_found c.loop-place.left.now (c.loop-place.invariant.2 plain) c.in_ok-name.name.now c.in_ok-name.rest.now c.in_ok-name.ensures.found in
          some_if c.then_some-in-Some-after_byte.result _ _ c.then_some-in-Some-after_byte.ensures (c.are_spaces-in-Some-after_byte.ensures.1 (closes_here (Next 44 (Next 34 NamesLeft)) 93 rest end refl (next_or_end (Next 34 NamesLeft) 44 93 rest end refl refl refl) more c.in-Some-after_byte.ensures.passed));
    }

pub returns-clause-plain : goal.returns-clause-plain
returns-clause-plain g c = λ plain. absurd (omega (arith, c.loop-place.invariant.1, names_some c.loop-place.left.now (c.loop-place.invariant.2 plain)))
