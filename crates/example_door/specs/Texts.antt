-- The text of a refusal, from the texts of sets of flags.
--     part      a word and the text of a set, or nothing if the set is empty
--     refusal_text      what is missing, and what bars
-- `++?` joins texts. A text that is not known is `None`, and so is each text that it is part of. The texts of sets of
-- flags are known.
use Rattle.std.specs.Prelude.{ℕ, if◌then◌else◌, List, [], Option, Some, codes}
use Rattle.std.specs.Fmt.{◌++?◌}
use Rattle.enumset_repr.specs.BitSet.{BitSet, is_empty}
use Rattle.example_door.specs.declared.machine.Refusal.{Refusal}

abbrev pub part : (BitSet → Option (List ℕ)) → List ℕ → BitSet → Option (List ℕ)
part text word s = if is_empty s then Some [] else Some word ++? text s

abbrev pub refusal_text : (BitSet → Option (List ℕ)) → Refusal → Option (List ℕ)
refusal_text text refusal =
    Some (codes "refused") ++? (part text (codes " without ") refusal.missing ++? part text (codes " while ") refusal.barring)
