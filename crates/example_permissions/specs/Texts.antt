-- The texts of decisions and of faults.
--     separator      what is written before a name: nothing before the first, a comma and a space before the others
--     joined      names with what is written before each of them
--     decision_text      the text of a decision
--     fault_text      the text of a fault, except for faults of std and of `serde_json`, whose contracts state no text
use Rattle.std.specs.Prelude.{ℕ, Bool, true, false, if◌then◌else◌, List, [], ◌∷◌, ◌++◌, map, codes, Option, Some, None, string_bytes}
use Rattle.enumset.specs.Sets.{ascending}
use Rattle.enumset.specs.Names.{name_of}
use Rattle.enumset.specs.JsonTexts.{json_fault_text}
use Rattle.example_permissions.specs.Reading.{right_names}
use Rattle.example_permissions.specs.declared.decision.Decision.{Decision}
use Rattle.example_permissions.specs.declared.decision.Decision.TheVariants.{Allowed, Denied}
use Rattle.example_permissions.specs.declared.fault.Fault.{Fault}
use Rattle.example_permissions.specs.declared.fault.Fault.TheVariants as fault

abbrev pub separator : Bool → List ℕ
separator is_first = if is_first then [] else codes ", "

abbrev pub joined : Bool → List (List ℕ) → List ℕ
joined is_first [] = []
joined is_first (name ∷ names) = separator is_first ++ (name ++ joined false names)

abbrev pub decision_text : Decision → List ℕ
decision_text Allowed = codes "allowed"
decision_text (Denied missing) = codes "denied: " ++ joined true (map (name_of right_names) (ascending missing))

abbrev pub fault_text : Fault → Option (List ℕ)
fault_text (fault.Io error) = None
fault_text (fault.Json error) = None
fault_text (fault.NoObject name) = Some (codes "no object `" ++ name.now ++ codes "`")
fault_text (fault.NoRole name) = Some (codes "no role `" ++ string_bytes name ++ codes "`")
fault_text (fault.NoUser name) = Some (codes "no user `" ++ string_bytes name ++ codes "`")
fault_text (fault.NoRight name) = Some (codes "no right `" ++ string_bytes name ++ codes "`")
fault_text (fault.List list name why) =
    Some (list.now ++ codes " of " ++ string_bytes name ++ codes ": " ++ json_fault_text why)
