use Rattle.std.proofs.Common.{◌≡◌, ◌≢◌, ◌∙◌, true, false, take, IfSome, IsOkAnd, Err, [], rules}
use Rattle.std.specs.Io.KnownBytes.{Appends}
use Rattle.enumset_run.specs.declared.program.TheConstants.{READ_LIMIT}
use Rattle.enumset_run.specs.declared.fault.ProgramFault.TheVariants.{Text, Writing}
use Rattle.enumset_run.specs.Faults.{IsFaultOver, AppendsFrontOf}
use Rattle.enumset_run.proofs.Inputs.{of_input}
use Rattle.enumset_run.proofs.program.answer_input.Goals as goal

pub returns-in_err-output-clause-fault : goal.returns-in_err-output-clause-fault
returns-in_err-output-clause-fault g c =
    let read : IfSome (g.R.Read.remaining c.args.reader) (λ bytes. c.deref.result.now ≡ take READ_LIMIT bytes) = rw c.deref.ensures.value c.in_ok-input.ensures.bytes in
    let fault : c.from_residual-in_err-output.result ≡ Err (Text c.in_err-output.field-0.0) = search rules in
    rw fault (of_input (λ a. IsFaultOver a (Text c.in_err-output.field-0.0)) c.args.worked _ _ read c.in_err-output.ensures.fault)

pub returns-in_err-write_output-clause-begun : goal.returns-in_err-write_output-clause-begun
returns-in_err-write_output-clause-begun g c =
    let read : IfSome (g.R.Read.remaining c.args.reader) (λ bytes. c.deref.result.now ≡ take READ_LIMIT bytes) = rw c.deref.ensures.value c.in_ok-input.ensures.bytes in
    λ failed. of_input (λ a. IsOkAnd a (AppendsFrontOf (g.W.Write.contents c.args.writer.now) (g.W.Write.contents c.write_output.new.writer))) c.args.worked _ _ read (rw c.in_ok-output.ensures.answer (rw (← c.deref-2.ensures.value) c.in_err-write_output.ensures.begun))

pub returns-in_err-write_output-clause-fault : goal.returns-in_err-write_output-clause-fault
returns-in_err-write_output-clause-fault g c =
    let read : IfSome (g.R.Read.remaining c.args.reader) (λ bytes. c.deref.result.now ≡ take READ_LIMIT bytes) = rw c.deref.ensures.value c.in_ok-input.ensures.bytes in
    let fault : c.from_residual-in_err-write_output.result ≡ Err Writing = search rules in
    rw fault (of_input (λ a. IsOkAnd a (λ text. text ≢ [])) c.args.worked _ _ read (rw c.in_ok-output.ensures.answer (λ none.
    let written : false ≡ true = c.in_err-write_output.ensures.succeeds (c.deref-2.ensures.value ∙ none) in absurd (cc))))

pub returns-clause-answer : goal.returns-clause-answer
returns-clause-answer g c =
    let read : IfSome (g.R.Read.remaining c.args.reader) (λ bytes. c.deref.result.now ≡ take READ_LIMIT bytes) = rw c.deref.ensures.value c.in_ok-input.ensures.bytes in
    of_input (λ a. IsOkAnd a (Appends (g.W.Write.contents c.args.writer.now) (g.W.Write.contents c.write_output.new.writer))) c.args.worked _ _ read (rw c.in_ok-output.ensures.answer (rw (← c.deref-2.ensures.value) c.in_ok-write_output.ensures.written))
