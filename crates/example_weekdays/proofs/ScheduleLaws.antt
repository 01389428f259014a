-- The schedules of a text with one more line.
use Rattle.std.proofs.Common.{◌≡◌, List, [], ◌∷◌, ◌++◌, Result, Ok, Err, refl, ap, sym, append_assoc}
use Rattle.enumset.specs.Sets.{BitSet}
use Rattle.example_weekdays.specs.Schedules.{Trouble, and_schedules, IsFaultOf}
use Rattle.example_weekdays.specs.declared.fault.Fault.{Fault}
use Rattle.example_weekdays.specs.declared.fault.Fault.TheVariants.{OutOfMemory, NoName, NoDay}

-- the schedules so far, and then the schedules of the remaining lines
abbrev pub after : List BitSet → Result (List BitSet) Trouble → Result (List BitSet) Trouble
after done (Ok later) = Ok (done ++ later)
after done (Err trouble) = Err trouble

pub after_more : (done : List BitSet) (days : BitSet) (later : Result (List BitSet) Trouble) → after done (and_schedules (Ok days) later) ≡ after (done ++ days ∷ []) later
after_more done days (Ok later) = ap Ok (sym (append_assoc done (days ∷ []) later))
after_more done days (Err trouble) = refl

-- what is wrong with the next line is what is wrong with the text
pub fault_of_next : (done : List BitSet) (days : Result BitSet Trouble) (later : Result (List BitSet) Trouble) (fault : Fault) → IsFaultOf days fault → IsFaultOf (after done (and_schedules days later)) fault
fault_of_next done days later OutOfMemory wrong = tt
fault_of_next done days later (NoName line) wrong = rw wrong refl
fault_of_next done days later (NoDay line word) wrong = rw wrong refl
