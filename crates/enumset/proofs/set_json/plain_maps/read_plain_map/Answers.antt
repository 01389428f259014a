use Rattle.std.proofs.Common.{rules, arith, ◌≡◌, cond, Ok, length, refl, sym, ap, subst, ◌∙◌, is_none, true≢false}
use Rattle.std.proofs.lemmas.Bool.{not-true}
use Rattle.std.proofs.lemmas.Grind.{common_steps}
use Rattle.enumset_repr.specs.BitSet.{empty, insert}
use Rattle.enumset.proofs.JsonScans.{some_if}
use Rattle.enumset.proofs.MapsRead.{Scanned, scan_begins, scan_next, scan_ends, scan_none}
use Rattle.enumset.proofs.PlainMembers.{names_apart, MembersLeft, AfterBrace, plain_map, member_less, members_some, no_member_found, found_known, found_new, after_found}
use Rattle.enumset.proofs.PlainTexts.{Next, next as next_of, no_next, closes_here, goes_on_here, next_or_end, passed_less}
use Rattle.enumset.proofs.PlainWords.{kept_if}
use Rattle.enumset.proofs.set_json.plain_maps.read_plain_map.Goals as goal
use Rattle.enumset.specs.JsonNames.{set_of_map}
use Rattle.enumset.specs.JsonReads.{value_read, IsResult}
use Rattle.enumset.specs.Names.{names_of}

pub returns-in_err-members-clause-plain : goal.returns-in_err-members-clause-plain
returns-in_err-members-clause-plain g c = λ plain.
    let names = names_of g.T.EnumSetType.elements g.T.EnumSetNames.names in
    absurd (no_next (AfterBrace names) 123 c.args.text.now _ c.as_bytes.ensures.value (plain_map names c.args.text.now plain) (λ after passed. c.in_err-members.ensures.found after refl passed))

pub returns-in-Some : goal.returns-in-Some
returns-in-Some g c =
    let names = names_of g.T.EnumSetType.elements g.T.EnumSetNames.names in
    let more = MembersLeft names empty in
    let rest = c.in_ok-members.members.now in
    let end = c.in-Some.end.now in
    record {
      set = kept_if _ c.then_some.result _ _ c.then_some.ensures (λ all unknown. subst (λ s. IsResult (value_read (set_of_map names unknown) c.args.text.now) (Ok s)) (sym c.new.ensures)
          (scan_none names c.args.text.now _ rest end unknown c.as_bytes.ensures.value c.in_ok-members.ensures.passed c.in-Some.ensures.passed (c.are_spaces.ensures.0 all)));
      plain = λ plain.
          let opened = next_of (AfterBrace names) 123 c.args.text.now _ rest c.as_bytes.ensures.value (plain_map names c.args.text.now plain) (λ after. c.in_ok-members.ensures.found after refl) in
          some_if c.then_some.result _ _ c.then_some.ensures (c.are_spaces.ensures.1 (closes_here (Next 34 more) 125 rest end refl (next_or_end more 34 125 rest end refl refl refl) opened c.in-Some.ensures.passed));
    }

pub returns-in_err-left-clause-plain : goal.returns-in_err-left-clause-plain
returns-in_err-left-clause-plain g c = λ plain.
    let names = names_of g.T.EnumSetType.elements g.T.EnumSetNames.names in
    let more = MembersLeft names empty in
    let rest = c.in_ok-members.members.now in
    let opened = next_of (AfterBrace names) 123 c.args.text.now _ rest c.as_bytes.ensures.value (plain_map names c.args.text.now plain) (λ after. c.in_ok-members.ensures.found after refl) in
    absurd (no_next more 34 rest rest refl (goes_on_here (Next 34 more) 125 rest opened (λ after passed. c.in_default.ensures.found after refl passed)) (λ after passed. c.in_err-left.ensures.found after refl passed))

pub loop-init : goal.loop-init
loop-init g c =
    let names = names_of g.T.EnumSetType.elements g.T.EnumSetNames.names in
    let more = MembersLeft names empty in
    let rest = c.in_ok-members.members.now in
    let left = c.in_ok-left.left.now in (
      subst (λ s. Scanned names c.args.text.now left s c.new-set.result) (sym c.new-seen.ensures)
          (subst (λ s. Scanned names c.args.text.now left empty s) (sym c.new-set.ensures) (scan_begins names c.args.text.now _ rest left c.as_bytes.ensures.value c.in_ok-members.ensures.passed c.in_ok-left.ensures.passed)),
      omega (arith, ap length c.as_bytes.ensures.value, passed_less _ 123 rest c.in_ok-members.ensures.passed, passed_less rest 34 left c.in_ok-left.ensures.passed),
      λ plain.
          let opened = next_of (AfterBrace names) 123 c.args.text.now _ rest c.as_bytes.ensures.value (plain_map names c.args.text.now plain) (λ after. c.in_ok-members.ensures.found after refl) in
          subst (λ s. MembersLeft names s left) (sym c.new-seen.ensures)
          (next_of more 34 rest rest left refl (goes_on_here (Next 34 more) 125 rest opened (λ after passed. c.in_default.ensures.found after refl passed)) (λ after. c.in_ok-left.ensures.found after refl)),
    )

pub returns-in_err-name-clause-plain : goal.returns-in_err-name-clause-plain
returns-in_err-name-clause-plain g c = λ plain.
    let names = names_of g.T.EnumSetType.elements g.T.EnumSetNames.names in
    absurd (no_member_found names c.loop.seen c.loop.left.now (c.loop.invariant.2 plain) c.in_err-name.ensures.found)

pub returns-in_err-element-clause-plain : goal.returns-in_err-element-clause-plain
returns-in_err-element-clause-plain g c = λ plain.
    let names = names_of g.T.EnumSetType.elements g.T.EnumSetNames.names in
    let known = found_known names c.loop.seen c.loop.left.now (c.loop.invariant.2 plain) c.in_ok-name.name.now c.in_ok-name.is_member c.in_ok-name.rest.now c.in_ok-name.ensures.found in
    absurd (true≢false (ap is_none c.in_err-element.ensures ∙ known))

pub returns-then-not-insert-clause-plain : goal.returns-then-not-insert-clause-plain
returns-then-not-insert-clause-plain g c = λ plain.
    let names = names_of g.T.EnumSetType.elements g.T.EnumSetNames.names in
    let new = found_new names c.loop.seen c.loop.left.now (c.loop.invariant.2 plain) c.in_ok-name.name.now c.in_ok-name.is_member c.in_ok-name.rest.now c.in_ok-name.ensures.found
    (g.T.EnumSetType.elements.bit c.in_ok-element.element) (sym c.in_ok-element.ensures) in
    absurd (grind (arith, new, c.insert.ensures.was_absent))

pub returns-in_err-after_byte-clause-plain : goal.returns-in_err-after_byte-clause-plain
returns-in_err-after_byte-clause-plain g c = λ plain.
    let names = names_of g.T.EnumSetType.elements g.T.EnumSetNames.names in
    let bit = g.T.EnumSetType.elements.bit c.in_ok-element.element in
    let rest = c.in_ok-name.rest.now in
    let more = Next 34 (MembersLeft names (insert c.loop.seen bit)) in
    let follows = after_found names c.loop.seen c.loop.left.now (c.loop.invariant.2 plain) c.in_ok-name.name.now c.in_ok-name.is_member rest c.in_ok-name.ensures.found bit (sym c.in_ok-element.ensures)
    (names_apart g.T.EnumSetType.elements.bit_list g.T.EnumSetNames.names g.met.T.EnumSetType.lawful.distinct) in
    let comma = goes_on_here (Next 44 more) 125 rest follows (λ after passed. c.in_default-after_byte.ensures.found after refl passed) in
    absurd (no_next more 44 rest rest refl comma (λ after passed. c.in_err-after_byte.ensures.found after refl passed))

pub returns-in_err-left-2-clause-plain : goal.returns-in_err-left-2-clause-plain
returns-in_err-left-2-clause-plain g c = λ plain.
    let names = names_of g.T.EnumSetType.elements g.T.EnumSetNames.names in
    let bit = g.T.EnumSetType.elements.bit c.in_ok-element.element in
    let rest = c.in_ok-name.rest.now in
    let after = c.in_ok-after_byte.field-0.now in
    let more = MembersLeft names (insert c.loop.seen bit) in
    let follows = after_found names c.loop.seen c.loop.left.now (c.loop.invariant.2 plain) c.in_ok-name.name.now c.in_ok-name.is_member rest c.in_ok-name.ensures.found bit (sym c.in_ok-element.ensures)
    (names_apart g.T.EnumSetType.elements.bit_list g.T.EnumSetNames.names g.met.T.EnumSetType.lawful.distinct) in
    let comma = goes_on_here (Next 44 (Next 34 more)) 125 rest follows (λ l passed. c.in_default-after_byte.ensures.found l refl passed) in
    let quote = next_of (Next 34 more) 44 rest rest after refl comma (λ l. c.in_ok-after_byte.ensures.found l refl) in
    absurd (no_next more 34 after after refl quote (λ l passed. c.in_err-left-2.ensures.found l refl passed))

pub returns-in-Some-after_byte : goal.returns-in-Some-after_byte
returns-in-Some-after_byte g c =
    let names = names_of g.T.EnumSetType.elements g.T.EnumSetNames.names in
    let bit = g.T.EnumSetType.elements.bit c.in_ok-element.element in
    let rest = c.in_ok-name.rest.now in
    let end = c.in-Some-after_byte.end.now in
    let more = Next 34 (MembersLeft names (insert c.loop.seen bit)) in
    let set_is : c.if-is_member.set ≡ cond c.in_ok-name.is_member (insert c.loop.set bit) c.loop.set = first_of (search rules, grind (arith, common_steps)) in
    record {
      set = kept_if _ c.then_some-in-Some-after_byte.result _ _ c.then_some-in-Some-after_byte.ensures (λ all unknown. subst (λ s. IsResult (value_read (set_of_map names unknown) c.args.text.now) (Ok s)) (sym set_is)
          (scan_ends names c.args.text.now c.loop.left.now c.loop.seen c.loop.set c.in_ok-name.name.now c.in_ok-name.is_member rest bit c.loop.invariant.0 c.in_ok-name.ensures.starts
          (sym c.in_ok-element.ensures) (not-true _ (sym c.insert.ensures.was_absent ∙ c.if-not-insert.false)) end unknown c.in-Some-after_byte.ensures.passed (c.are_spaces-in-Some-after_byte.ensures.0 all)));
      plain = λ plain.
          let follows = after_found names c.loop.seen c.loop.left.now (c.loop.invariant.2 plain) c.in_ok-name.name.now c.in_ok-name.is_member rest c.in_ok-name.ensures.found bit (sym c.in_ok-element.ensures)
          (names_apart g.T.EnumSetType.elements.bit_list g.T.EnumSetNames.names g.met.T.EnumSetType.lawful.distinct) in
          some_if c.then_some-in-Some-after_byte.result _ _ c.then_some-in-Some-after_byte.ensures (c.are_spaces-in-Some-after_byte.ensures.1 (closes_here (Next 44 more) 125 rest end refl (next_or_end more 44 125 rest end refl refl refl) follows c.in-Some-after_byte.ensures.passed));
    }

pub loop-preserved : goal.loop-preserved
loop-preserved g c =
    let names = names_of g.T.EnumSetType.elements g.T.EnumSetNames.names in
    let bit = g.T.EnumSetType.elements.bit c.in_ok-element.element in
    let rest = c.in_ok-name.rest.now in
    let after = c.in_ok-after_byte.field-0.now in
    let next = c.in_ok-left-2.left.now in
    let more = MembersLeft names (insert c.loop.seen bit) in
    let set_is : c.if-is_member.set ≡ cond c.in_ok-name.is_member (insert c.loop.set bit) c.loop.set = first_of (search rules, grind (arith, common_steps)) in (
      subst (λ s. Scanned names c.args.text.now next s c.if-is_member.set) (sym c.insert.ensures.inserted)
          (subst (λ s. Scanned names c.args.text.now next (insert c.loop.seen bit) s) (sym set_is)
          (scan_next names c.args.text.now c.loop.left.now c.loop.seen c.loop.set c.in_ok-name.name.now c.in_ok-name.is_member rest bit c.loop.invariant.0 c.in_ok-name.ensures.starts
          (sym c.in_ok-element.ensures) (not-true _ (sym c.insert.ensures.was_absent ∙ c.if-not-insert.false)) after next c.in_ok-after_byte.ensures.passed c.in_ok-left-2.ensures.passed)),
      omega (arith, c.loop.invariant.1, member_less c.loop.left.now c.in_ok-name.name.now c.in_ok-name.is_member rest c.in_ok-name.ensures.starts, passed_less rest 44 after c.in_ok-after_byte.ensures.passed, passed_less after 34 next c.in_ok-left-2.ensures.passed),
      λ plain.
          let follows = after_found names c.loop.seen c.loop.left.now (c.loop.invariant.2 plain) c.in_ok-name.name.now c.in_ok-name.is_member rest c.in_ok-name.ensures.found bit (sym c.in_ok-element.ensures)
          (names_apart g.T.EnumSetType.elements.bit_list g.T.EnumSetNames.names g.met.T.EnumSetType.lawful.distinct) in
          let comma = goes_on_here (Next 44 (Next 34 more)) 125 rest follows (λ l passed. c.in_default-after_byte.ensures.found l refl passed) in
          let quote = next_of (Next 34 more) 44 rest rest after refl comma (λ l. c.in_ok-after_byte.ensures.found l refl) in
          subst (λ s. MembersLeft names s next) (sym c.insert.ensures.inserted) (next_of more 34 after after next refl quote (λ l. c.in_ok-left-2.ensures.found l refl)),
    )

pub returns-clause-plain : goal.returns-clause-plain
returns-clause-plain g c = λ plain.
    let names = names_of g.T.EnumSetType.elements g.T.EnumSetNames.names in
    absurd (omega (arith, c.loop.invariant.1, members_some names c.loop.seen c.loop.left.now (c.loop.invariant.2 plain)))
