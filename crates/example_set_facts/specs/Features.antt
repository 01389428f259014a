-- Written by enumset_derive example_set_facts features from Feature: change the source, and write this again.
use Rattle.std.specs.Prelude.{ℕ, List, ◌∷◌, [], codes, Option, Result}
use Rattle.enumset.specs.Sets.{BitSet, in_place}
use Rattle.enumset.specs.JsonNames.{set_of_list}
use Rattle.enumset.specs.Names.{Names, names_of}
use Rattle.enumset.specs.JsonReads.{value_read}
use Rattle.enumset.specs.declared.set_json.fault.JsonFault.{JsonFault}
use Rattle.enumset.specs.declared.set_json.unknown.Unknown.TheVariants as unknown
use Rattle.serde_json.specs.Data.{Data}
use Rattle.example_set_facts.specs.contracts.features.Feature.{the_type}
use Rattle.example_set_facts.specs.declared.features.Feature.{Feature}

abbrev pub bit : Feature → ℕ
bit v = (in_place the_type).bit v

-- the names in JSON
abbrev pub names : Names
names = names_of (in_place the_type)
    (codes "Accounts" ∷ codes "Payments" ∷ codes "Invoices" ∷ codes "Reports" ∷
    codes "Exports" ∷ codes "Alerts" ∷ [])

-- the set that `from_json` returns of a value, or the fault
abbrev pub set_read : Data → Result BitSet JsonFault
set_read = set_of_list names unknown.Refuse

-- the same of a text, or `None` if it is not JSON
abbrev pub set_in : List ℕ → Option (Result BitSet JsonFault)
set_in text = value_read set_read text
