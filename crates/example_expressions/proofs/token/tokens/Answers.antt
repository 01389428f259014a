use Rattle.std.proofs.Common.{◌≡◌, Err, ap, inl, inr, rules}
use Rattle.std.proofs.lemmas.Iterator.{YieldsList-from_chars}
use Rattle.std.proofs.lemmas.Iterator.Consumers.{YieldsList-from_enumerate, YieldsList-turn, YieldsList-end}
use Rattle.std.proofs.lemmas.List.{length_push}
use Rattle.example_expressions.proofs.Characters.{more_read, fault_read, all_read}
use Rattle.example_expressions.proofs.token.tokens.Goals as goal

pub returns-in_err-read-clause-fault : goal.returns-in_err-read-clause-fault
returns-in_err-read-clause-fault c =
    let turn = YieldsList-turn (YieldsList-from_enumerate (YieldsList-from_chars c.args.line.now c.utf8.line cc) cc) c.loop-index.yielded _ c.loop-index.yielded_by _ _ (c.in-Some.index, c.in-Some.character) c.in-Some.is c.next.ensures.steps in
    let failed : c.from_residual.result ≡ Err c.in_err-read.field-0.0 = search rules in
    rw failed (elim c.in_err-read.ensures.fault [
      | inl memory ↦ inl (ap (λ fault. fault.reason) memory)
      | inr fault ↦ inr (fault_read _ _ _ _ c.loop-index.invariant _ turn _ fault)
    ])

pub loop-index-preserved : goal.loop-index-preserved
loop-index-preserved c =
    let turn = YieldsList-turn (YieldsList-from_enumerate (YieldsList-from_chars c.args.line.now c.utf8.line cc) cc) c.loop-index.yielded _ c.loop-index.yielded_by _ _ (c.in-Some.index, c.in-Some.character) c.in-Some.is c.next.ensures.steps in
    more_read _ _ _ _ c.loop-index.invariant _ turn _ _ _ c.in_ok-read.ensures.read c.is_ascii_digit-was_digit.ensures.value (length_push _ _)

pub returns-clause-tokens : goal.returns-clause-tokens
returns-clause-tokens c =
    let end = YieldsList-end (YieldsList-from_enumerate (YieldsList-from_chars c.args.line.now c.utf8.line cc) cc) c.loop-index.yielded _ c.loop-index.yielded_by _ _ c.in-None.is c.next.ensures.steps in
    all_read _ _ _ _ c.loop-index.invariant end.1
