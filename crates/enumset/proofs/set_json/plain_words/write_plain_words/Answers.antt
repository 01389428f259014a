use Rattle.std.proofs.Common.{◌≡◌, ◌++◌, ◌∷◌, [], nat_lt, decimal, ap, sym, ◌∙◌, append-nil, append_assoc, arith, lt-ltb, le-ltb}
use Rattle.serde_json.specs.Read.{read}
use Rattle.serde_json.specs.Written.{comma_if}
use Rattle.enumset.proofs.WordsWritten.{none_written, one_written, all_written, words_reads}
use Rattle.enumset.proofs.set_json.plain_words.write_plain_words.Goals.{then-i-gt0+in_ok-push-2, else-i-gt0}
use Rattle.enumset.proofs.set_json.plain_words.write_plain_words.Goals as goal

pub loop-i-init : goal.loop-i-init
loop-i-init g c = none_written (g.R.EnumSetTypeRepr.members c.args.repr.now) c.push.new.self.items (c.in_ok-push.ensures.items ∙ ap (λ l. l ++ 91 ∷ []) c.in_ok-bytes.ensures.items)

pub loop-i-preserved : goal.loop-i-preserved
loop-i-preserved g c =
    let old = c.loop-i.bytes.items in
    let begun : c.if-i-gt0.bytes.items ≡ old ++ comma_if (nat_lt 0 c.loop-i.i) = elim c.if-i-gt0.branch [
      | then-i-gt0+in_ok-push-2 w ↦ ap (λ bytes. bytes.items) w.bytes-is ∙ w.in_ok-push-2.ensures.items ∙ ap (λ later. old ++ comma_if later) (sym (lt-ltb 0 c.loop-i.i w.if-i-gt0.true))
      | else-i-gt0 w ↦ ap (λ bytes. bytes.items) w.bytes-is ∙ sym (append-nil old) ∙ ap (λ later. old ++ comma_if later) (sym (le-ltb 0 c.loop-i.i (omega (arith, w.if-i-gt0.false))))
    ] in
    one_written (g.R.EnumSetTypeRepr.members c.args.repr.now) old c.push_digits.new.bytes.items c.loop-i.i c.word.result c.loop-i.invariant c.word.ensures
    (c.in_ok-push_digits.ensures ∙ ap (λ l. l ++ decimal c.word.result) begun ∙ append_assoc old (comma_if (nat_lt 0 c.loop-i.i)) (decimal c.word.result))

pub ascii_text-requires : goal.ascii_text-requires
ascii_text-requires g c = (all_written (g.R.EnumSetTypeRepr.members c.args.repr.now) c.loop-i.bytes.items c.push-2.new.self.items c.loop-i.i g.R.EnumSetTypeRepr.PREFERRED_ARRAY_LEN c.loop-i.invariant
    (omega (arith, c.loop-i-test.false, c.PREFERRED_ARRAY_LEN-i-end.ensures, c.loop-i.auto.i-end)) c.in_ok-push-3.ensures.items).1

pub returns-clause-text : goal.returns-clause-text
returns-clause-text g c = c.ascii_text.ensures ∙ (all_written (g.R.EnumSetTypeRepr.members c.args.repr.now) c.loop-i.bytes.items c.push-2.new.self.items c.loop-i.i g.R.EnumSetTypeRepr.PREFERRED_ARRAY_LEN c.loop-i.invariant
    (omega (arith, c.loop-i-test.false, c.PREFERRED_ARRAY_LEN-i-end.ensures, c.loop-i.auto.i-end)) c.in_ok-push-3.ensures.items).0

pub returns-clause-reads : goal.returns-clause-reads
returns-clause-reads g c = ap read (returns-clause-text g c) ∙ words_reads (g.R.EnumSetTypeRepr.members c.args.repr.now) g.R.EnumSetTypeRepr.PREFERRED_ARRAY_LEN
