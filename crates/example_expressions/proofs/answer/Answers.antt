use Rattle.std.proofs.Common.{◌≡◌, Err, inl, inr, rules}
use Rattle.example_expressions.specs.Answers.{no_tokens}
use Rattle.example_expressions.proofs.Answered.{fault_of_value, fault_of_tokens}
use Rattle.example_expressions.proofs.answer.Goals as goal

pub returns-in_err-tokens-clause-fault : goal.returns-in_err-tokens-clause-fault
returns-in_err-tokens-clause-fault c =
    let failed : c.from_residual.result ≡ Err c.in_err-tokens.field-0.0 = search rules in
    rw failed (elim c.in_err-tokens.ensures.fault [
      | inl memory ↦ inl memory
      | inr is ↦ inr (no_tokens is)
    ])

pub returns-in-Err-clause-fault : goal.returns-in-Err-clause-fault
returns-in-Err-clause-fault c =
    inr (fault_of_tokens _ _ _ _ _ c.in_ok-tokens.ensures.tokens (rw (← c.deref.ensures.value) c.in-Err.ensures.refused) (rw (← c.deref-in-Err.ensures.value) c.column_at-column.ensures) c.at.ensures)

pub returns-clause-fault : goal.returns-clause-fault
returns-clause-fault c =
    fault_of_value _ _ _ c.in_ok-tokens.ensures.tokens (rw (← c.deref.ensures.value) c.in_default.ensures.accepted) (rw (← c.deref-2.ensures.value) c.evaluate.ensures.fault)
