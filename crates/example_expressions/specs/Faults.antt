-- Results that are faults.
--     fault_at      a reason, at a column
--     and_then      the next result, unless this one is a fault
--     at      a result, with a column for its reason if it has one
use Rattle.std.specs.Prelude.{ℕ, Result, Ok, Err}
use Rattle.example_expressions.specs.declared.fault.Fault.{Fault}
use Rattle.example_expressions.specs.declared.fault.Reason.{Reason}

abbrev pub fault_at : ℕ → Reason → Fault
fault_at column reason = record { column = column; reason = reason }

abbrev pub and_then : {A B E : Type 0} → Result A E → (A → Result B E) → Result B E
and_then (Ok value) next = next value
and_then (Err fault) next = Err fault

abbrev pub at : {A : Type 0} → ℕ → Result A Reason → Result A Fault
at column (Ok value) = Ok value
at column (Err reason) = Err (fault_at column reason)
