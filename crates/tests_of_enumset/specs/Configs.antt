-- Flags in a config, a value of JSON whose member `flags` is a list of names.
--     list_in      the member `flags`
--     flags_in      the set that the list is read as, or the fault, if there is such a member
--     with_flags      the config with the list of another set
use Rattle.std.specs.Prelude.{Option, option_map, Result, codes}
use Rattle.enumset.specs.Sets.{BitSet}
use Rattle.serde_json.specs.Data.{Data, null, boolean, number, string, array, object, put}
use Rattle.serde_json.specs.Find.{get}
use Rattle.enumset.specs.JsonNames.{set_of_list, list_value}
use Rattle.enumset.specs.Names.{Names}
use Rattle.enumset.specs.declared.set_json.fault.JsonFault.{JsonFault}
use Rattle.enumset.specs.declared.set_json.unknown.Unknown.TheVariants.{Refuse}

abbrev pub list_in : Data → Option Data
list_in config = get (codes "flags") config

abbrev pub flags_in : Names → Data → Option (Result BitSet JsonFault)
flags_in names config = option_map (set_of_list names Refuse) (list_in config)

abbrev pub with_flags : Names → BitSet → Data → Data
with_flags names s (object members) = object (put (codes "flags") (list_value names s) members)
with_flags names s null = null
with_flags names s (boolean b) = boolean b
with_flags names s (number n) = number n
with_flags names s (string text) = string text
with_flags names s (array items) = array items
